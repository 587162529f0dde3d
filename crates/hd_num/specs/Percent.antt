-- The percents that words write, their texts, and the part of a height that a percent is.
use Rattle.std.specs.Prelude.{◌&&◌, ◌==◌, ◌+◌, ◌*◌, ◌^◌, ◌-◌, ◌/◌, ◌%◌, ◌++◌, ◌*ℤ◌, ℕ, ℤ, pos, Bool, int_lt, nat_le, nat_lt, List, [], ◌∷◌, length, take, slice_index_or, decimal, Option, Some, None, if◌then◌else◌}
use Rattle.std.specs.Char.{is_ascii_digit}
use Rattle.std.specs.Int.{is_in_range}
use Rattle.std.specs.List.{after_first, before_first, list_all}
use Rattle.std.specs.Str.Parse.{digits_value}
use Rattle.hd_num.specs.declared.percent.Percent.{Percent}
use Rattle.hd_num.specs.Decimal.{is_point}

-- one to three digits
abbrev pub are_few_digits : List ℕ → Bool
are_few_digits text = is_in_range 1 3 (length text) && list_all is_ascii_digit text

-- the number that one to three digits write
abbrev pub few_digits_of : List ℕ → Option ℕ
few_digits_of text = if are_few_digits text then Some (digits_value 10 text) else None

-- the thousandths that one to three digits after a point write
abbrev pub fraction_of : List ℕ → Option ℕ
fraction_of text = if are_few_digits text then Some (digits_value 10 text * 10 ^ (3 - length text)) else None

-- the thousandths after the point, and 0 without a point
abbrev pub thousandths_of : List ℕ → Option ℕ
thousandths_of text = if nat_lt (length (before_first is_point text)) (length text) then fraction_of (after_first is_point text) else Some 0

-- the percent of so many wholes and thousandths, where it is at most 100
abbrev pub percent_within : ℕ → Option Percent
percent_within thousandths = if nat_le thousandths 100000 then Some (record { thousandths = thousandths }) else None

abbrev pub percent_of_parts : Option ℕ → Option ℕ → Option Percent
percent_of_parts (Some whole) (Some thousandths) = percent_within (whole * 1000 + thousandths)
percent_of_parts (Some whole) None = None
percent_of_parts None fraction = None

-- the percent that a text before `%` writes
abbrev pub percent_before : List ℕ → Option Percent
percent_before text = percent_of_parts (few_digits_of (before_first is_point text)) (thousandths_of text)

-- whether a text ends in `%`
abbrev pub ends_in_mark : List ℕ → Bool
ends_in_mark word = nat_lt 0 (length word) && slice_index_or word (length word - 1) 0 == 37

-- the percent that a word writes: one to three digits, optionally a point and one to three digits, then
-- `%`; at most 100
abbrev pub percent_of : List ℕ → Option Percent
percent_of word = if ends_in_mark word then percent_before (take (length word - 1) word) else None

-- the three digits of thousandths
abbrev pub three_digits : ℕ → List ℕ
three_digits n = (48 + n / 100) ∷ (48 + n / 10 % 10) ∷ (48 + n % 10) ∷ []

-- how many of them are left without zeros at the end
abbrev pub digits_left : ℕ → ℕ
digits_left n = if n % 100 == 0 then 1 else (if n % 10 == 0 then 2 else 3)

-- thousandths as a point and digits without zeros at the end, and nothing for none
abbrev pub fraction_text : ℕ → List ℕ
fraction_text n = if n == 0 then [] else (46 ∷ take (digits_left n) (three_digits n))

-- the text of a percent
abbrev pub percent_text : ℕ → List ℕ
percent_text thousandths = decimal (thousandths / 1000) ++ (fraction_text (thousandths % 1000) ++ 37 ∷ [])

-- whether a local height is below this percent of a height
abbrev pub is_percent_less : ℤ → ℕ → ℤ → Bool
is_percent_less local thousandths sz = int_lt (local *ℤ pos 100000) (pos thousandths *ℤ sz)
