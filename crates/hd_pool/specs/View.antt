-- A pool that a side of a map is seen by.
use Rattle.std.specs.Prelude.{List, Option}
use Rattle.std.specs.Option.{ForSome}
use Rattle.hd_map.specs.declared.types.SideName.{SideName}
use Rattle.hd_map.specs.Map.{Map}
use Rattle.hd_basin.specs.declared.extent.Extent.{Extent}
use Rattle.hd_basin.specs.InStep.{IsPoolOf}
use Rattle.hd_basin.specs.Parts.{Pool}
use Rattle.hd_basin.specs.Reading.{AreExtents}
use Rattle.hd_basin.specs.Roots.{AreRoots, Rooted}

-- the pool is that of the map, and the roots are those of its nodes, and the extents, where they are found, those of the regions
pub record IsViewed (m : Map) (side : SideName) (pool : Pool) (roots : Rooted) (extents : Option (List Extent)) : Type 0 where
  pub is_pool : IsPoolOf m side pool
  pub are_roots : AreRoots side pool roots
  pub are_extents : ForSome extents (AreExtents m side)
