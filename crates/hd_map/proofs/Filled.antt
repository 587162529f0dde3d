-- The heights of a profile, one column after the other.
use Rattle.std.proofs.Common.{◌≡◌, ◌<◌, ◌≤◌, ◌+◌, ◌≤ℤ◌, ◌+ℤ◌, ◌&&◌, ◌||◌, ◌↔◌, ◌∙◌, ℕ, ℤ, pos, neg_ℤ, Bool, true, false, not, List, length, set, Some, None, inl, inr, arith}
use mir.Syntax.{w64}
use mir.Val.{of_z, to_z}
use Rattle.std.specs.Prelude.{if◌then◌else◌, int_le, nat_le}
use Rattle.std.specs.Bool.{Decides, OnFalse, OnTrue}
use Rattle.std.proofs.Math.ListN.{length-set}
use Rattle.std.proofs.lemmas.Bool.{OnFalse_from, OnTrue_from, and_from, and_parts, cases_eq, le-leb, leb-true}
use Rattle.std.proofs.lemmas.Int.{ints}
use Rattle.std.proofs.lemmas.List.{get_or-set_same, get_or-set_other}
use Rattle.hd_map.specs.Encoding.{Encoding}
use Rattle.hd_map.specs.Lanes.{AreHeightsTo, IsFarProfile, IsPlainHeight, IsRowOfHeights}
use Rattle.hd_map.specs.declared.types.DataType.{DataType}
use Rattle.hd_map.specs.Map.{Map, height_at, least_height}
use Rattle.hd_map.specs.Packing.{over_least}
use Rattle.hd_map.proofs.DataTypes.{least_read}

-- a height is at most so far from zero
abbrev pub IsNear : ℤ → ℤ → Type 0
IsNear most z = (neg_ℤ most ≤ℤ z) × (z ≤ℤ most)

-- it is told by bounds on how far the height is over the least one
pub over_tells : (t : DataType) (least most : ℤ) (n from to over : ℕ) → least ≡ least_height t → most ≡ pos n
    → from ≤ over ↔ neg_ℤ most ≤ℤ (to_z w64 (of_z w64 least) +ℤ pos over) → over ≤ to ↔ (to_z w64 (of_z w64 least) +ℤ pos over) ≤ℤ most
    → Decides (nat_le from over && nat_le over to) (IsNear (pos n) (over_least t over))
over_tells t least most n from to over is most_is first last =
    let read = least_read t least is in
    let low = rw (read, most_is) at first in
    let high = rw (read, most_is) at last in (
      (λ e. let both = and_parts (nat_le from over) (nat_le over to) e in (low.0 (leb-true from over both.0), high.0 (leb-true over to both.1))),
      (λ near. and_from (nat_le from over) (nat_le over to) (le-leb from over (low.1 near.0)) (le-leb over to (high.1 near.1))),
    )

-- or by bounds on the height itself
pub itself_tells : (n : ℕ) (low high z : ℤ) → low ≡ neg_ℤ (pos n) → high ≡ pos n → Decides (int_le low z && int_le z high) (IsNear (pos n) z)
itself_tells n low high z low_is high_is = (
  (λ e. let both = and_parts (int_le low z) (int_le z high) e in let above = both.0 in let below = both.1 in (grind (arith, ints), grind (arith, ints))),
  (λ near. let above = near.0 in let below = near.1 in and_from (int_le low z) (int_le z high) (grind (arith, ints)) (grind (arith, ints))),
)

-- so a height that shows and was told to be near is near
pub near_shown : (most z : ℤ) (shown near : Bool) → Decides near (IsNear most z) → OnTrue (shown && near) (IsNear most z)
near_shown most z shown near tells = OnTrue_from (shown && near) (IsNear most z) (λ e. tells.0 (and_parts shown near e).1)

module _ {L : Type 0} (code : Encoding L) (m : Map) (y : ℕ) where
  -- up to a column the numbers stand for the heights, where the flag says that all are near enough
  pub record IsFilled (x : ℕ) (all : Bool) (row : List L) : Type 0 where
    pub near : all ≡ true → AreHeightsTo code m y x row
    pub far : all ≡ false → IsFarProfile code m y

  -- no column yet
  pub filled_none : (row : List L) → length row ≡ m.size.points → IsFilled 0 true row
  filled_none row whole = record { near = λ e. record { whole = whole; each = λ k below. absurd (omega (arith, below)) }; far = λ e. absurd (cc e) }

  -- one column more
  heights_more : (x : ℕ) (row : List L) (number : L) → x < length row → IsPlainHeight code (height_at m (record { x = x; y = y })) number
      → AreHeightsTo code m y x row → AreHeightsTo code m y (x + 1) (set row x number)
  heights_more x row number inside is before = record {
    whole = length-set row x number ∙ before.whole;
    each = λ k below. elim (cases_eq k x) [
      | inl same ↦ rw (same, get_or-set_same row x number code.missing inside) is
      | inr other ↦ rw (get_or-set_other row x k number code.missing other) (before.each k (omega (arith, below, other)))
    ];
  }

  -- a height that is not near is beyond the bound
  beyond : (x : ℕ) (height : ℤ) → height_at m (record { x = x; y = y }) ≡ Some height → (IsNear (pos code.most_height) height → ⊥) → x < m.size.points → IsFarProfile code m y
  beyond x height is not_near inside = record { column = x; in_grid = inside; beyond = λ bounded. not_near (bounded.least height is, bounded.greatest height is) }

  -- one column more, with the number that is written there
  pub filled_more : (x : ℕ) (all shown near : Bool) (row : List L) (height : ℤ) (number : L) → x < length row → length row ≡ m.size.points
      → height_at m (record { x = x; y = y }) ≡ (if shown then Some height else None) → Decides near (IsNear (pos code.most_height) height)
      → IsPlainHeight code (if shown && near then Some height else None) number → IsFilled x all row → IsFilled (x + 1) (all && (not shown || near)) (set row x number)
  filled_more x false shown near row height number inside whole is tells plain before = record { near = λ e. absurd (cc e); far = before.far }
  filled_more x true false near row height number inside whole is tells plain before = record { near = λ e. heights_more x row number inside (rw is plain) (before.near e); far = λ e. absurd (cc e) }
  filled_more x true true true row height number inside whole is tells plain before = record { near = λ e. heights_more x row number inside (rw is plain) (before.near e); far = λ e. absurd (cc e) }
  filled_more x true true false row height number inside whole is tells plain before = record {
    near = λ e. absurd (cc e);
    far = λ e. beyond x height is (λ near. (let no : false ≡ true = tells.1 near in cc)) (omega (arith, inside, whole));
  }

  -- all columns
  pub filled_row : (x : ℕ) (all : Bool) (row : List L) → m.size.points ≤ x → IsFilled x all row → OnTrue all (IsRowOfHeights code m y row)
  filled_row x all row done filled = OnTrue_from all (IsRowOfHeights code m y row)
      (λ e. let heights = filled.near e in record { whole = heights.whole; each = λ k below. heights.each k (omega (arith, below, done)) })

  pub filled_far : (x : ℕ) (all : Bool) (row : List L) → IsFilled x all row → OnFalse all (IsFarProfile code m y)
  filled_far x all row filled = OnFalse_from all (IsFarProfile code m y) filled.far
