-- Neighbours that are nearer to the end of a path.
use Rattle.std.specs.Prelude.{◌≡◌, ◌<◌, ◌≤◌, ◌+◌, ◌-◌, ℕ, List, length, Option, Some}
use Rattle.hd_map.specs.declared.types.Pos.{Pos}
use Rattle.hd_map.specs.Map.{Map, InGrid, Present, place_of, cell_count}
use Rattle.hd_map.specs.Neighbour.{Neighbour}
use Rattle.hd_check.specs.Rules.{point_of}
use Rattle.hd_cert.specs.declared.residue.Residue.{Residue}
use Rattle.hd_cert.specs.Residues.{residue_at, residue_of}
use Rattle.hd_reach.specs.Steps.{steps_at}

-- q is a neighbour with this number of steps
pub record IsNearer (m : Map) (steps : List (Option ℕ)) (left : ℕ) (at q : Pos) : Type 0 where
  pub neighbour : Neighbour m at q
  pub noted : steps_at m.size steps q ≡ Some left

-- q is a neighbour with this residue
pub record IsBesideWith (m : Map) (residues : List Residue) (residue : Residue) (at q : Pos) : Type 0 where
  pub neighbour : Neighbour m at q
  pub noted : residue_at m.size residues q ≡ residue

-- q is the first position of this kind
pub record IsFirst (m : Map) (Kind : Pos → Type 0) (q : Pos) : Type 0 where
  pub kind : Kind q
  pub first : (r : Pos) → Kind r → place_of m.size q ≤ place_of m.size r

-- from the first point on each is the first that is nearer by one step
pub record GoesNearer (m : Map) (steps : List (Option ℕ)) (from : Pos) (count : ℕ) (path : List Pos) (gone : ℕ) : Type 0 where
  pub long : length path ≡ gone + 1
  pub begins : point_of path 0 ≡ from
  pub nearer : (k : ℕ) → k < gone → IsFirst m (IsNearer m steps (count - (k + 1)) (point_of path k)) (point_of path (k + 1))

-- so many steps lead down from a point to another, and these residues tell them
pub record LeadsDown (m : Map) (residues : List Residue) (from to : Pos) (steps : List (Option ℕ)) (count : ℕ) : Type 0 where
  pub read : (p : Pos) → InGrid m.size p → residue_at m.size residues p ≡ residue_of (steps_at m.size steps p)
  pub noted : steps_at m.size steps from ≡ Some count
  pub few : count < cell_count m.size
  pub begun : steps_at m.size steps to ≡ Some 0
  pub ends : (p : Pos) → InGrid m.size p → steps_at m.size steps p ≡ Some 0 → p ≡ to
  pub close : (p q : Pos) → Neighbour m p q → (a b : ℕ) → steps_at m.size steps p ≡ Some a → steps_at m.size steps q ≡ Some b → b ≤ a + 1
  pub falls : (p : Pos) (n : ℕ) → n < count → Present m p → steps_at m.size steps p ≡ Some (n + 1) → (q : Pos) × IsNearer m steps n p q
