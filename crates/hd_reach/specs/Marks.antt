-- What stands at the points that a start reaches.
use Rattle.std.specs.Prelude.{◌≡◌, ℕ, zero, suc, List, length, slice_index_or, Option, Some, None}
use Rattle.hd_map.specs.declared.types.Pos.{Pos}
use Rattle.hd_map.specs.declared.types.Size.{Size}
use Rattle.hd_map.specs.Map.{Map, InGrid, cell_count, place_of}
use Rattle.hd_map.specs.Path.{Leads}
use Rattle.hd_reach.specs.Steps.{AreSteps, OpenStep, steps_at}

-- what stands at a point that is not reached, the mark one step further than another, that of the start, and by index what stood before
pub record Marking (V : Type 0) : Type 0 where
  pub blank : V
  pub after : V → V
  pub first : V
  pub before : List V

abbrev pub marking : {V : Type 0} → V → (V → V) → V → List V → Marking V
marking blank after first before = record { blank = blank; after = after; first = first; before = before }

-- the mark in so many steps
abbrev pub mark_in : {V : Type 0} → Marking V → ℕ → V
mark_in k zero = k.first
mark_in k (suc n) = k.after (mark_in k n)

-- the mark in the steps of a point, and what stood there where it has none
abbrev pub marked : {V : Type 0} → Marking V → V → Option ℕ → V
marked k before None = before
marked k before (Some n) = mark_in k n

-- what stands at a point
abbrev pub mark_at : {V : Type 0} → V → Size → List V → Pos → V
mark_at blank s marks p = slice_index_or marks (place_of s p) blank

-- nothing stands at the points that the start reaches by way of open points
abbrev pub AreBlank : {V : Type 0} → Map → (Pos → Type 0) → Pos → V → List V → Type 0
AreBlank m IsOpen start blank marks = (p : Pos) (xs : List Pos) → Leads (OpenStep m IsOpen) p xs start → mark_at blank m.size marks p ≡ blank

-- the points that have steps are marked by these, and at the others stands what stood there before
pub record AreMarked {V : Type 0} (m : Map) (IsOpen : Pos → Type 0) (start : Pos) (goal : Option Pos) (k : Marking V) (marks : List V) : Type 0 where
  pub steps : List (Option ℕ)
  pub are : AreSteps m IsOpen start goal steps
  pub whole : length marks ≡ cell_count m.size
  pub read : (p : Pos) → InGrid m.size p → mark_at k.blank m.size marks p ≡ marked k (mark_at k.blank m.size k.before p) (steps_at m.size steps p)
