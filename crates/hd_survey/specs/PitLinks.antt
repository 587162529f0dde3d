-- The pits of a map as lows, and the crossings between their regions.
use Rattle.std.specs.Prelude.{◌≡◌, true, ℕ, List, Option, All, map}
use Rattle.hd_graph.specs.declared.graph.Low.{Low}
use Rattle.hd_map.specs.declared.types.Link.{Link}
use Rattle.hd_map.specs.declared.types.Pass.{Pass}
use Rattle.hd_map.specs.declared.types.Rank.{Rank}
use Rattle.hd_map.specs.declared.types.SideName.{SideName}
use Rattle.hd_map.specs.Crossings.{AreCrossingsUnder}
use Rattle.hd_map.specs.Map.{Map}
use Rattle.hd_map.specs.Pruning.{ArePits}
use Rattle.hd_map.specs.Region.{AreRegions}
use Rattle.hd_steep.specs.Crossings.{HasPits, passes_of}

-- a pit as a low
abbrev pub low_of : Rank → Low
low_of pit = record { rank = pit; pit = true }

-- they are enough to tell at which heights the regions of the map are joined
abbrev pub AreRegionCrossings : Map → SideName → List Pass → Type 0
AreRegionCrossings m side passes = (roots : List (Option ℕ)) × AreRegions m side roots × AreCrossingsUnder m side roots passes

-- the pits of the map as lows, and links between them that stand for crossings of their regions
pub record AreLinkedPits (m : Map) (side : SideName) (lows : List Low) (links : List Link) : Type 0 where
  pub pits : List Rank
  pub are_pits : ArePits m side pits
  pub are_lows : lows ≡ map low_of pits
  pub ends : All (HasPits pits) links
  pub crossings : AreRegionCrossings m side (passes_of side pits links)
