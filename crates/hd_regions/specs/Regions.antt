-- The regions of a map, with the numbers of their points.
use Rattle.std.specs.Prelude.{List, map, Contains}
use Rattle.hd_map.specs.declared.types.Rank.{Rank}
use Rattle.hd_map.specs.declared.types.RegionSize.{RegionSize}
use Rattle.hd_map.specs.declared.types.SideName.{SideName}
use Rattle.hd_map.specs.Map.{Map}
use Rattle.hd_map.specs.Pruning.{ArePits}
use Rattle.hd_map.specs.Region.{IsRoot}
use Rattle.hd_map.specs.Sums.{IsCount}

-- the pits of regions
abbrev pub region_pits : List RegionSize → List Rank
region_pits sizes = map {A = RegionSize} {B = Rank} (λ size. size.pit) sizes

-- the regions of a map on a side, in position order of their pits, each with the number of the points whose root is
-- its pit
pub record AreRegionSizes (m : Map) (side : SideName) (sizes : List RegionSize) : Type 0 where
  pub pits : ArePits m side (region_pits sizes)
  pub points : (size : RegionSize) → Contains sizes size → IsCount (λ p. IsRoot m side p size.pit) size.points
