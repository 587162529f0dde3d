-- Heights by index, and plain numbers that stand for them.
use Rattle.std.specs.Prelude.{◌≡◌, ◌≤ℤ◌, ℕ, ℤ, List, length, slice_index_or, Option, Some, None}
use Rattle.hd_map.specs.declared.types.Size.{Size}
use Rattle.hd_map.specs.Map.{place_of, cell_count}
use Rattle.hd_map.specs.Encoding.{Encoding, number_in}
use Rattle.hd_map.specs.Lanes.{IsBounded, IsPlainNumber}
use Rattle.hd_morph.specs.Element.{ElementTable}
use Rattle.hd_morph.specs.Filter.{Relief}

-- the value, if it is a number, is from a least to a greatest one
abbrev pub IsBetween : ℤ → ℤ → Option ℤ → Type 0
IsBetween least greatest value = (z : ℤ) → value ≡ Some z → (least ≤ℤ z) × (z ≤ℤ greatest)

-- each number of an element is at most n from zero
pub record HasNumbersWithin (n : ℕ) (e : ElementTable) : Type 0 where
  pub each : (k : ℕ) → IsBounded n (slice_index_or e.table k None)

-- the height at a place, and none past the end
abbrev pub value_at : List (Option ℤ) → ℕ → Option ℤ
value_at values place = slice_index_or values place None

-- each height is from a least to a greatest one
abbrev pub AreBetween : ℤ → ℤ → List (Option ℤ) → Type 0
AreBetween least greatest values = (k : ℕ) → IsBetween least greatest (value_at values k)

-- the heights by position
abbrev pub relief : Size → List (Option ℤ) → Relief
relief s values p = value_at values (place_of s p)

-- each height is at most n from zero, and each number that stands for none is `missing`
pub record IsPlain {L : Type 0} (code : Encoding L) (n : ℕ) (numbers : List L) : Type 0 where
  pub each : (k : ℕ) → IsPlainNumber code n (number_in code numbers k)

-- the numbers are as many as the size says, and are plain
pub record ArePlain {L : Type 0} (code : Encoding L) (s : Size) (n : ℕ) (numbers : List L) : Type 0 where
  pub whole : length numbers ≡ cell_count s
  pub plain : IsPlain code n numbers

-- heights stand at the same places
pub record StandAlike (f g : List (Option ℤ)) : Type 0 where
  pub whole : length g ≡ length f
  pub there : (k : ℕ) (z : ℤ) → value_at f k ≡ Some z → (y : ℤ) × (value_at g k ≡ Some y)
  pub back : (k : ℕ) (z : ℤ) → value_at g k ≡ Some z → (y : ℤ) × (value_at f k ≡ Some y)
