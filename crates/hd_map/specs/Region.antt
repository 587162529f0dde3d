-- Nexts, pits, roots and regions on a side. For hills the pits are the peaks.
use Rattle.std.specs.Prelude.{◌≡◌, ℕ, true, List, [], ◌∷◌, length, slice_get, Option, Some, None}
use Rattle.hd_map.specs.declared.types.Pos.{Pos}
use Rattle.hd_map.specs.declared.types.Rank.{Rank}
use Rattle.hd_map.specs.declared.types.SideName.{SideName}
use Rattle.hd_map.specs.Map.{Map, InGrid, Present, place_of, cell_count}
use Rattle.hd_map.specs.Order.{IsNotAbove}
use Rattle.hd_map.specs.Rank.{rank, below_by, IsPoint, Near}

-- q is a neighbour of p that is below it
pub record LowerNeighbour (m : Map) (side : SideName) (p q : Rank) : Type 0 where
  pub near : Near m p q
  pub below : below_by side q p ≡ true

-- q is the lowest of the neighbours of p that are below it
pub record IsNext (m : Map) (side : SideName) (p q : Rank) : Type 0 where
  pub lower : LowerNeighbour m side p q
  pub lowest : (r : Rank) → LowerNeighbour m side p r → IsNotAbove (below_by side) q r

-- a present point without a neighbour below it
pub record IsPit (m : Map) (side : SideName) (p : Rank) : Type 0 where
  pub point : IsPoint m p
  pub alone : (q : Rank) → LowerNeighbour m side p q → ⊥

-- the list goes from p through nexts and ends in the pit r
abbrev pub AreNexts : Map → SideName → Rank → List Rank → Rank → Type 0
AreNexts m side p [] r = (p ≡ r) × IsPit m side p
AreNexts m side p (q ∷ qs) r = IsNext m side p q × AreNexts m side q qs r

-- r is the end of the list of nexts of p: p lies in the region of the pit r
abbrev pub IsRoot : Map → SideName → Rank → Rank → Type 0
IsRoot m side p r = (path : List Rank) × AreNexts m side p path r

-- by index the index of the root, and none for points that are not present
pub record AreRegions (m : Map) (side : SideName) (labels : List (Option ℕ)) : Type 0 where
  pub whole : length labels ≡ cell_count m.size
  pub present : (p : Pos) → Present m p → (r : Rank) × IsRoot m side (rank m p) r × (slice_get labels (place_of m.size p) ≡ Some (Some r.index))
  pub absent : (p : Pos) → InGrid m.size p → (Present m p → ⊥) → slice_get labels (place_of m.size p) ≡ Some None
