-- The numbers that words write.
use Rattle.std.specs.Prelude.{◌-◌, ◌^◌, ℕ, ℤ, pos, negsuc, neg_ℤ, List, length, Bool, not, ◌&&◌, ◌==◌, nat_lt, min, Option, Some, None, if◌then◌else◌}
use Rattle.std.specs.Char.{is_ascii_digit}
use Rattle.std.specs.List.{list_all}
use Rattle.std.specs.Str.Parse.{digits_value, signed_digits_value, without_leading_sign}
use Rattle.hd_num.specs.declared.whole.Whole.{Whole}
use Rattle.hd_num.specs.declared.whole.Whole.TheVariants.{Not, Outside, Is}

-- one digit `0` to `9` or more, and nothing else
abbrev pub is_numeral : List ℕ → Bool
is_numeral word = not (length word == 0) && list_all is_ascii_digit word

-- the whole number of a word, however large: a numeral, after at most one sign
abbrev pub whole_value : List ℕ → Option ℤ
whole_value word = if is_numeral (without_leading_sign word) then Some (signed_digits_value 10 word) else None

-- the number is from -2^63 to 2^63 - 1; negsuc n is -n - 1
abbrev pub fits_i64 : ℤ → Bool
fits_i64 (pos n) = nat_lt n (2 ^ 63)
fits_i64 (negsuc n) = nat_lt n (2 ^ 63)

-- the number where it fits i64
abbrev pub whole_of_number : ℤ → Whole
whole_of_number z = if fits_i64 z then Is z else Outside

-- what a word is, by its number
abbrev pub whole_of_value : Option ℤ → Whole
whole_of_value None = Not
whole_of_value (Some z) = whole_of_number z

-- what a word is: a whole number that fits i64, one outside it, or no whole number
abbrev pub whole_of : List ℕ → Whole
whole_of word = whole_of_value (whole_value word)

-- a whole number that fits i64
abbrev pub i64_of : Whole → Option ℤ
i64_of (Is z) = Some z
i64_of Not = None
i64_of Outside = None

-- the count that a word writes: a numeral, of at most 4,294,967,295
abbrev pub count_of : List ℕ → Option ℕ
count_of word = if is_numeral word && nat_lt (digits_value 10 word) (2 ^ 32) then Some (digits_value 10 word) else None

-- the value of a numeral, or the greatest u64 where it is more
abbrev pub saturated_value : List ℕ → Option ℕ
saturated_value word = if is_numeral word then Some (min (digits_value 10 word) (2 ^ 64 - 1)) else None

-- a number by its sign and its magnitude
abbrev pub signed_number : Bool → ℕ → ℤ
signed_number negative n = if negative then neg_ℤ (pos n) else pos n
