-- The way from a point to the pit of its region.
use Rattle.hd_map.specs.declared.types.Pos.{Pos}
use Rattle.hd_map.specs.declared.types.SideName.{SideName}
use Rattle.hd_map.specs.Map.{Map, Present}
use Rattle.hd_map.specs.Rank.{rank}
use Rattle.hd_map.specs.Region.{IsRoot}

-- the present point is the pit of the region of the other
pub record IsRootOf (m : Map) (side : SideName) (p pit : Pos) : Type 0 where
  pub present : Present m pit
  pub root : IsRoot m side (rank m p) (rank m pit)
