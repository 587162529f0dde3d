-- Descents: the ways down from points whose lower neighbours fall into several groups.
use Rattle.std.specs.Prelude.{◌≡◌, ◌⊎◌, List, Contains}
use Rattle.hd_map.specs.declared.types.Pos.{Pos}
use Rattle.hd_map.specs.declared.types.Rank.{Rank}
use Rattle.hd_map.specs.declared.types.SideName.{SideName}
use Rattle.hd_map.specs.Map.{Map, Present}
use Rattle.hd_map.specs.Path.{Leads}
use Rattle.hd_map.specs.Rank.{rank}
use Rattle.hd_map.specs.Region.{IsNext, LowerNeighbour}
use Rattle.hd_steep.specs.declared.descent.Descent.{Descent}
use Rattle.hd_steep.specs.Crossed.{AreBeside}

module _ (m : Map) (side : SideName) where
  -- it leads from x down to its lower neighbour y
  pub record LeadsDown (d : Descent) (x y : Rank) : Type 0 where
    pub lower : LowerNeighbour m side x y
    pub from_is : d.from ≡ x.index
    pub to_is : d.to ≡ y.index

  -- it leads from a point down to one of its lower neighbours
  pub record IsDescent (d : Descent) : Type 0 where
    pub from : Rank
    pub to : Rank
    pub leads : LeadsDown d from to

  -- it leads down from a point at a chosen position
  pub record IsDescentFrom (Chosen : Pos → Type 0) (d : Descent) : Type 0 where
    pub at : Pos
    pub chosen : Chosen at
    pub present : Present m at
    pub to : Rank
    pub leads : LeadsDown d (rank m at) to

  -- the lower neighbour y of x leads round x to the next of x, or to one to which a descent leads from x
  pub record IsReached (descents : List Descent) (x y : Rank) : Type 0 where
    pub last : Rank
    pub way : List Rank
    pub along : Leads (AreBeside m side x) y way last
    pub by : IsNext m side x last ⊎ Contains descents (record { from = x.index; to = last.index })
