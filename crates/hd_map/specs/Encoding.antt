-- How the numbers of a type stand for heights. One far below every height stands for none, and stays far
-- below when a number of an element is added to it.
use Rattle.std.specs.Prelude.{◌≡◌, ◌+◌, ℕ, ℤ, negsuc, List, map, slice_index_or, Option, Some, None, int_lt, if◌then◌else◌, refl}

-- how the numbers of a type stand for heights
pub record Encoding (L : Type 0) : Type 0 where
  -- the height for which a number stands
  pub shown : L → Option ℤ
  -- stands for none
  pub missing : L
  -- the most that a height of a map is from zero
  pub most_height : ℕ
  -- the most that a number of an element is from zero
  pub most_number : ℕ
  pub missing_none : shown missing ≡ None

-- the most that a height that was filtered once is from zero
abbrev pub most_between : {L : Type 0} → Encoding L → ℕ
most_between code = code.most_height + code.most_number

-- and one that was filtered twice
abbrev pub most_filtered : {L : Type 0} → Encoding L → ℕ
most_filtered code = most_between code + code.most_number

-- the heights for which numbers stand
abbrev pub values_of : {L : Type 0} → Encoding L → List L → List (Option ℤ)
values_of code numbers = map code.shown numbers

-- the number at a place, and `missing` past the end
abbrev pub number_in : {L : Type 0} → Encoding L → List L → ℕ → L
number_in code numbers place = slice_index_or numbers place code.missing

-- each number that is not above the floor stands for none, and each other one for itself
abbrev pub shown_over : ℤ → ℤ → Option ℤ
shown_over floor z = if int_lt floor z then Some z else None

-- -(2 ^ 30)
abbrev pub narrow_floor : ℤ
narrow_floor = negsuc 1073741823

-- numbers of 32 bits: heights to 2 ^ 29 from zero, numbers of elements to 2 ^ 27, and -(3 * 2 ^ 29) for none
abbrev pub narrow : Encoding ℤ
narrow = record {
  shown = shown_over narrow_floor;
  missing = negsuc 1610612735;
  most_height = 536870912;
  most_number = 134217728;
  missing_none = refl;
}

-- -(2 ^ 61)
abbrev pub wide_floor : ℤ
wide_floor = negsuc 2305843009213693951

-- numbers of 64 bits: heights to 2 ^ 53 from zero, numbers of elements to 2 ^ 32 - 1, and -(2 ^ 62) for none
abbrev pub wide : Encoding ℤ
wide = record {
  shown = shown_over wide_floor;
  missing = negsuc 4611686018427387903;
  most_height = 9007199254740992;
  most_number = 4294967295;
  missing_none = refl;
}
