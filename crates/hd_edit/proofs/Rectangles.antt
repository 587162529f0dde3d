-- The positions of a rectangle, profile by profile.
use Rattle.std.proofs.Common.{◌≡◌, ◌<◌, ◌≤◌, ◌+◌, ◌%◌, ℕ, true, false, inl, inr, arith}
use Rattle.std.proofs.Math.Nat.{mul-le-mul_right}
use Rattle.std.proofs.lemmas.Bool.{cases_lt, false_from_ne_true}
use Rattle.std.proofs.lemmas.Bool.Decides.{nat_tests}
use Rattle.hd_map.specs.declared.types.Pos.{Pos}
use Rattle.hd_map.specs.declared.types.Size.{Size}
use Rattle.hd_map.specs.Map.{InGrid, place_of, position_at}
use Rattle.hd_map.proofs.Points.{position_at-place}
use Rattle.hd_edit.specs.Edit.{in_rectangle}
use Rattle.hd_edit.specs.Stroke.{IsRectangle, next_in}
use Rattle.hd_edit.proofs.IfLess.{if-less, if-not_less}

-- a position of the rectangle
pub record IsIn (from to p : Pos) : Type 0 where
  pub left : from.x ≤ p.x
  pub right : p.x ≤ to.x
  pub top : from.y ≤ p.y
  pub bottom : p.y ≤ to.y

-- what passes the test is in the rectangle
pub IsIn-true : (from to p : Pos) → in_rectangle from to p ≡ true → IsIn from to p
IsIn-true from to p e = record {
  left = grind (arith, nat_tests);
  right = grind (arith, nat_tests);
  top = grind (arith, nat_tests);
  bottom = grind (arith, nat_tests);
}

-- what is in the rectangle passes the test
pub in_rectangle-true : (from to p : Pos) → IsIn from to p → in_rectangle from to p ≡ true
in_rectangle-true from to p is = grind (arith, nat_tests, is.left, is.right, is.top, is.bottom)

-- no position of the rectangle comes before its first corner
pub IsIn-first_corner : (s : Size) (from to p : Pos) → IsIn from to p → place_of s from ≤ place_of s p
IsIn-first_corner s from to p is = omega (arith, is.left, mul-le-mul_right s.points is.top)

-- the position that comes next in the rectangle after one of its last column
abbrev pub row_below : Pos → Pos → Pos
row_below from at = record { x = from.x; y = at.y + 1 }

-- no position of the rectangle comes between
pub IsIn-nothing_between : (s : Size) (from to at p : Pos) → to.x ≤ at.x → IsIn from to p → place_of s at < place_of s p → place_of s (row_below from at) ≤ place_of s p
IsIn-nothing_between s from to at p last is after = elim (cases_lt at.y p.y) [
  | inl below ↦ let row : at.y + 1 ≤ p.y = omega (arith, below) in omega (arith, is.left, mul-le-mul_right s.points row)
  | inr above ↦ absurd (omega (arith, after, last, is.right, mul-le-mul_right s.points above))
]

-- no position of the rectangle comes after its last profile
pub IsIn-nothing_past : (s : Size) (from to at p : Pos) → p.x < s.points → to.y < at.y → IsIn from to p → place_of s p < place_of s at
IsIn-nothing_past s from to at p column past is = let row : p.y + 1 ≤ at.y = omega (arith, past, is.bottom) in omega (arith, column, mul-le-mul_right s.points row)

-- where a walk through a rectangle stands: in it, or in the profile below it
pub record StandsAt (from to at : Pos) : Type 0 where
  pub left : from.x ≤ at.x
  pub right : at.x ≤ to.x
  pub top : from.y ≤ at.y
  pub bottom : at.y ≤ to.y + 1

-- a walk begins at the first corner
pub StandsAt-first : (s : Size) (from to : Pos) → IsRectangle s from to → StandsAt from to from
StandsAt-first s from to is = record { left = omega arith; right = is.columns; top = omega arith; bottom = omega (arith, is.profiles) }

-- the next position is that of the next column, or that of the profile below
data NextIs (from to at : Pos) : Pos → Type 0 where
  beside : at.x < to.x → NextIs from to at (record { x = at.x + 1; y = at.y })
  under : to.x ≤ at.x → NextIs from to at (row_below from at)

next_is : (from to at : Pos) → NextIs from to at (next_in from to at)
next_is from to at = elim (cases_lt at.x to.x) [
  | inl less ↦ rw (if-less at.x to.x (record { x = at.x + 1; y = at.y }) (row_below from at) less) (beside less)
  | inr more ↦ rw (if-not_less at.x to.x (record { x = at.x + 1; y = at.y }) (row_below from at) more) (under more)
]

module _ (s : Size) (from to at : Pos) (is : IsRectangle s from to) (stands : StandsAt from to at) (here : at.y ≤ to.y) where
  -- the walk goes on
  stands_on : (next : Pos) → NextIs from to at next → StandsAt from to next
  stands_on next (beside less) = record { left = omega (arith, stands.left); right = omega (arith, less); top = stands.top; bottom = stands.bottom }
  stands_on next (under more) = record { left = omega arith; right = is.columns; top = omega (arith, stands.top); bottom = omega (arith, here) }

  pub StandsAt-next : StandsAt from to (next_in from to at)
  StandsAt-next = stands_on (next_in from to at) (next_is from to at)

  -- in the rectangle, and in the grid
  pub StandsAt-in : IsIn from to at
  StandsAt-in = record { left = stands.left; right = stands.right; top = stands.top; bottom = here }

  pub StandsAt-inside : InGrid s at
  StandsAt-inside = record { column = omega (arith, stands.right, is.second.column); profile = omega (arith, here, is.second.profile) }

  -- the index rises
  later_on : (next : Pos) → NextIs from to at next → place_of s at + 1 ≤ place_of s next
  later_on next (beside less) = omega arith
  later_on next (under more) = omega (arith, stands.right, is.second.column)

  pub next_in-later : place_of s at + 1 ≤ place_of s (next_in from to at)
  next_in-later = later_on (next_in from to at) (next_is from to at)

  -- no position of the rectangle lies between
  between_on : (next : Pos) → NextIs from to at next → (p : Pos) → IsIn from to p → place_of s at < place_of s p → place_of s next ≤ place_of s p
  between_on next (beside less) p in' after = omega (arith, after)
  between_on next (under more) p in' after = IsIn-nothing_between s from to at p more in' after

  pub in_rectangle-none_between : (k : ℕ) → place_of s at + 1 ≤ k → k < place_of s (next_in from to at) → in_rectangle from to (position_at s k) ≡ false
  in_rectangle-none_between k after before = false_from_ne_true (in_rectangle from to (position_at s k)) (λ passes.
      let place : place_of s (position_at s k) ≡ k = position_at-place s k (omega (arith, is.first.column)) in
      let past = between_on (next_in from to at) (next_is from to at) (position_at s k) (IsIn-true from to (position_at s k) passes) (omega (arith, place, after)) in
      omega (arith, past, place, before))

module _ (s : Size) (from to : Pos) (is : IsRectangle s from to) where
  -- no position of the rectangle lies before its first corner
  pub in_rectangle-none_before : (k : ℕ) → k < place_of s from → in_rectangle from to (position_at s k) ≡ false
  in_rectangle-none_before k before = false_from_ne_true (in_rectangle from to (position_at s k)) (λ passes.
      let place : place_of s (position_at s k) ≡ k = position_at-place s k (omega (arith, is.first.column)) in
      let first = IsIn-first_corner s from to (position_at s k) (IsIn-true from to (position_at s k) passes) in
      omega (arith, first, place, before))

  -- nor below its last profile
  pub in_rectangle-none_past : (at : Pos) → to.y < at.y → (k : ℕ) → place_of s at ≤ k → in_rectangle from to (position_at s k) ≡ false
  in_rectangle-none_past at below k after = false_from_ne_true (in_rectangle from to (position_at s k)) (λ passes.
      let some : 1 ≤ s.points = omega (arith, is.first.column) in
      let place : place_of s (position_at s k) ≡ k = position_at-place s k some in
      let column : k % s.points < s.points = omega (arith, some) in
      let before = IsIn-nothing_past s from to at (position_at s k) column below (IsIn-true from to (position_at s k) passes) in
      omega (arith, before, place, after))

-- a walk stands before the end of the profile below the last
pub StandsAt-low : (s : Size) (from to at : Pos) → IsRectangle s from to → StandsAt from to at → place_of s at < place_of s to + s.points + 1
StandsAt-low s from to at is stands = omega (arith, stands.right, mul-le-mul_right s.points stands.bottom)
