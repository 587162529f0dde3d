-- The regions of pits, gathered so far.
use Rattle.std.specs.Prelude.{ℕ, List, Option, take}
use Rattle.hd_map.specs.declared.types.Rank.{Rank}
use Rattle.hd_map.specs.declared.types.SideName.{SideName}
use Rattle.hd_map.specs.Map.{Map, IsMap}
use Rattle.hd_basin.specs.declared.extent.Extent.{Extent}
use Rattle.hd_basin.specs.Extents.{AreGathered}
use Rattle.hd_basin.specs.InStep.{IsPoolOf}
use Rattle.hd_basin.specs.Parts.{Pool}
use Rattle.hd_basin.specs.Roots.{all_nodes}

-- by the numbers of the pits, what the basins of the first k nodes sum up to
abbrev pub AreGatheredTo : SideName → Pool → List Rank → ℕ → List (Option Extent) → Type 0
AreGatheredTo side pool pits k extents = (m : Map) → IsMap m → IsPoolOf m side pool
    → AreGathered m side pool.side pits (take k (all_nodes pool.parts)) extents
