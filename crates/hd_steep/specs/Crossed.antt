-- Crossings as they are gathered, point by point.
use Rattle.std.specs.Prelude.{◌≡◌, ◌⊎◌, true, List, Contains}
use Rattle.hd_map.specs.declared.types.Pass.{Pass}
use Rattle.hd_map.specs.declared.types.Pos.{Pos}
use Rattle.hd_map.specs.declared.types.Rank.{Rank}
use Rattle.hd_map.specs.declared.types.SideName.{SideName}
use Rattle.hd_map.specs.Map.{Map, Present}
use Rattle.hd_map.specs.Path.{Leads}
use Rattle.hd_map.specs.Rank.{rank, below_by, Near}
use Rattle.hd_map.specs.Region.{LowerNeighbour, IsRoot}
use Rattle.hd_map.specs.Walks.{HasPass}

module _ (m : Map) (side : SideName) where
  -- two lower neighbours of x that are neighbours of each other
  pub record AreBeside (x y z : Rank) : Type 0 where
    pub from : LowerNeighbour m side x y
    pub to : LowerNeighbour m side x z
    pub near : Near m y z

  -- x and y lie in one region
  pub record AreInOne (x y : Rank) : Type 0 where
    pub root : Rank
    pub from : IsRoot m side x root
    pub to : IsRoot m side y root

  -- the pass at x between the region of x and that of its lower neighbour y, the lower end first
  pub record IsPassTo (x y : Rank) (p : Pass) : Type 0 where
    pub ends : below_by side p.a p.b ≡ true
    pub at_is : p.at ≡ x
    pub of : (IsRoot m side x p.a × IsRoot m side y p.b) ⊎ (IsRoot m side x p.b × IsRoot m side y p.a)

  -- a pass at a point to one of its lower neighbours
  pub record IsCrossing (p : Pass) : Type 0 where
    pub higher : Rank
    pub lower : Rank
    pub neighbour : LowerNeighbour m side higher lower
    pub pass : IsPassTo higher lower p

  -- nothing is left out, and what is new are crossings
  pub record Extends (old new : List Pass) : Type 0 where
    pub from : (p : Pass) → Contains new p → Contains old p ⊎ IsCrossing p
    pub kept : (p : Pass) → Contains old p → Contains new p

  -- x and y lie in one region, or in two that a pass at x joins
  pub record IsCrossed (passes : List Pass) (x y : Rank) : Type 0 where
    pub a : Rank
    pub b : Rank
    pub from : IsRoot m side x a
    pub to : IsRoot m side y b
    pub by : (a ≡ b) ⊎ HasPass passes a b x

  -- y leads round x to one that lies in the region of x, or in one that a pass at x joins with it
  pub record IsServed (passes : List Pass) (x y : Rank) : Type 0 where
    pub last : Rank
    pub way : List Rank
    pub along : Leads (AreBeside x) y way last
    pub crossed : IsCrossed passes x last

  -- the list is extended, so that the lower neighbours of the chosen points are served
  pub record Gathers (Chosen : Pos → Type 0) (old new : List Pass) : Type 0 where
    pub extends : Extends old new
    pub served : (u : Pos) → Chosen u → Present m u → (z : Rank) → LowerNeighbour m side (rank m u) z → IsServed new (rank m u) z
