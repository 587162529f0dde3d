-- Numbers that stand for heights, one by one and in rows.
use Rattle.std.specs.Prelude.{◌≡◌, ◌<◌, ◌≤ℤ◌, ℕ, ℤ, pos, neg_ℤ, Bool, true, false, List, length, Option, Some, None, MatchOption, int_lt}
use Rattle.hd_map.specs.Encoding.{Encoding, number_in}
use Rattle.hd_map.specs.Map.{Map, height_at}

-- the value, if it is a number, is at most n from zero
pub record IsBounded (n : ℕ) (value : Option ℤ) : Type 0 where
  pub least : (z : ℤ) → value ≡ Some z → neg_ℤ (pos n) ≤ℤ z
  pub greatest : (z : ℤ) → value ≡ Some z → z ≤ℤ pos n

-- the number stands for a height at most n from zero, or is `missing`
pub record IsPlainNumber {L : Type 0} (code : Encoding L) (n : ℕ) (number : L) : Type 0 where
  pub bounded : IsBounded n (code.shown number)
  pub absent : code.shown number ≡ None → number ≡ code.missing

-- the number stands for a height, or for none
pub record IsPlainHeight {L : Type 0} (code : Encoding L) (height : Option ℤ) (number : L) : Type 0 where
  pub is : code.shown number ≡ height
  pub plain : IsPlainNumber code code.most_height number

-- a number that stands for a height, if the height is not too far from zero
abbrev pub EncodesHeight : {L : Type 0} → Encoding L → Option ℤ → Option L → Type 0
EncodesHeight code height result = MatchOption result (IsBounded code.most_height height → ⊥) (IsPlainHeight code height)

-- the negative of a value
abbrev pub minus : Option ℤ → Option ℤ
minus (Some z) = Some (neg_ℤ z)
minus None = None

-- what a number becomes: its negative, or `missing` where it stands for none
pub record IsNegated {L : Type 0} (code : Encoding L) (old new : L) : Type 0 where
  pub value : code.shown new ≡ minus (code.shown old)
  pub absent : code.shown old ≡ None → new ≡ code.missing

-- whether the first value is the greater one, where none is below each number
abbrev pub exceeds : Option ℤ → Option ℤ → Bool
exceeds None b = false
exceeds (Some x) None = true
exceeds (Some x) (Some y) = int_lt y x

-- by column the numbers that stand for the heights of a profile, up to a column
pub record AreHeightsTo {L : Type 0} (code : Encoding L) (m : Map) (y x : ℕ) (row : List L) : Type 0 where
  pub whole : length row ≡ m.size.points
  pub each : (k : ℕ) → k < x → IsPlainHeight code (height_at m (record { x = k; y = y })) (number_in code row k)

-- the same of all columns
abbrev pub IsRowOfHeights : {L : Type 0} → Encoding L → Map → ℕ → List L → Type 0
IsRowOfHeights code m y row = AreHeightsTo code m y m.size.points row

-- a height of the profile is too far from zero for these numbers
pub record IsFarProfile {L : Type 0} (code : Encoding L) (m : Map) (y : ℕ) : Type 0 where
  pub column : ℕ
  pub in_grid : column < m.size.points
  pub beyond : IsBounded code.most_height (height_at m (record { x = column; y = y })) → ⊥
