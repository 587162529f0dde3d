-- In how many steps points are reached by way of open points.
use Rattle.std.specs.Prelude.{◌≡◌, ◌<◌, ◌≤◌, ◌+◌, ℕ, List, length, slice_index_or, Option, Some, None, MatchOption}
use Rattle.hd_map.specs.declared.types.Pos.{Pos}
use Rattle.hd_map.specs.declared.types.Size.{Size}
use Rattle.hd_map.specs.Map.{Map, InGrid, place_of, cell_count}
use Rattle.hd_map.specs.Neighbour.{Neighbour}
use Rattle.hd_map.specs.Path.{Leads}

-- two open neighbours
pub record OpenStep (m : Map) (IsOpen : Pos → Type 0) (p q : Pos) : Type 0 where
  pub neighbour : Neighbour m p q
  pub from : IsOpen p
  pub to : IsOpen q

-- the steps that are noted for a point
abbrev pub steps_at : Size → List (Option ℕ) → Pos → Option ℕ
steps_at s steps p = slice_index_or steps (place_of s p) None

-- where a goal is asked for and has its steps, so many steps are no more than those
abbrev pub IsWanted : Size → List (Option ℕ) → Option Pos → ℕ → Type 0
IsWanted s steps goal n = MatchOption goal (Unit {0}) (λ g. (k : ℕ) → steps_at s steps g ≡ Some k → n ≤ k)

-- by index the fewest steps from each point to the start by way of open points, and none for the points from
-- which there is no way; points that are further than the goal may have none
pub record AreSteps (m : Map) (IsOpen : Pos → Type 0) (start : Pos) (goal : Option Pos) (steps : List (Option ℕ)) : Type 0 where
  pub whole : length steps ≡ cell_count m.size
  pub reached : (p : Pos) → InGrid m.size p → (n : ℕ) → steps_at m.size steps p ≡ Some n → (xs : List Pos) × Leads (OpenStep m IsOpen) p xs start × (length xs ≡ n)
  pub least : (p : Pos) (xs : List Pos) → Leads (OpenStep m IsOpen) p xs start → IsWanted m.size steps goal (length xs) → (n : ℕ) × (n ≤ length xs) × (steps_at m.size steps p ≡ Some n)
  pub close : (p q : Pos) → Neighbour m p q → (a b : ℕ) → steps_at m.size steps p ≡ Some a → steps_at m.size steps q ≡ Some b → b ≤ a + 1
  pub few : (p : Pos) → InGrid m.size p → (n : ℕ) → steps_at m.size steps p ≡ Some n → n < cell_count m.size
