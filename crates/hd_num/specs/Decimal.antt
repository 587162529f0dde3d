-- The decimals that words write.
use Rattle.std.specs.Prelude.{◌≡◌, ◌&&◌, ◌+◌, ◌++◌, ◌-ℤ◌, ◌≤ℤ◌, ◌==◌, ◌||◌, ℕ, ℤ, pos, neg_ℤ, Bool, true, nat_le, nat_lt, List, length, Option, Some, None, if◌then◌else◌}
use Rattle.std.specs.Char.{is_ascii_digit}
use Rattle.std.specs.Int.{is_in_range}
use Rattle.std.specs.List.{after_first, before_first, list_all}
use Rattle.std.specs.Str.Parse.{digits_value, signed_digits_value, starts_with_minus, without_leading_sign}
use Rattle.hd_num.specs.declared.decimal.Decimal.{Decimal}

-- an `e` or `E`, which stands before the exponent
abbrev pub is_exponent_mark : ℕ → Bool
is_exponent_mark byte = byte == 101 || byte == 69

-- a point
abbrev pub is_point : ℕ → Bool
is_point byte = byte == 46

-- what stands before the exponent of a text without its sign
abbrev pub mantissa : List ℕ → List ℕ
mantissa text = before_first is_exponent_mark text

-- the text has an exponent
abbrev pub has_exponent : List ℕ → Bool
has_exponent text = nat_lt (length (mantissa text)) (length text)

-- at most one sign, and one to three digits
abbrev pub is_exponent : List ℕ → Bool
is_exponent text = is_in_range 1 3 (length (without_leading_sign text)) && list_all is_ascii_digit (without_leading_sign text)

-- the exponent has its form, where there is one
abbrev pub has_exponent_form : List ℕ → Bool
has_exponent_form text = if has_exponent text then is_exponent (after_first is_exponent_mark text) else true

-- the exponent as written, or 0 without one
abbrev pub exponent_of : List ℕ → ℤ
exponent_of text = if has_exponent text then signed_digits_value 10 (after_first is_exponent_mark text) else pos 0

-- the digits before the point
abbrev pub whole_digits : List ℕ → List ℕ
whole_digits text = before_first is_point (mantissa text)

-- the digits after the point
abbrev pub fraction_digits : List ℕ → List ℕ
fraction_digits text = after_first is_point (mantissa text)

-- one to 38 digits, with at most one point before, between or after them, and an exponent or none
abbrev pub is_unsigned_decimal : List ℕ → Bool
is_unsigned_decimal text = has_exponent_form text
    && is_in_range 1 38 (length (whole_digits text) + length (fraction_digits text))
    && list_all is_ascii_digit (whole_digits text)
    && list_all is_ascii_digit (fraction_digits text)

-- at most one sign before such a text, and at most 64 bytes in all
abbrev pub is_decimal : List ℕ → Bool
is_decimal word = nat_le (length word) 64 && is_unsigned_decimal (without_leading_sign word)

-- the number that all its digits before the exponent form
abbrev pub digits_of : List ℕ → ℕ
digits_of text = digits_value 10 (whole_digits text ++ fraction_digits text)

-- the exponent of that number: as written, less the digits after the point
abbrev pub scale_of : List ℕ → ℤ
scale_of text = exponent_of text -ℤ pos (length (fraction_digits text))

-- the decimal that a word writes
unfoldable pub decimal_of : List ℕ → Option Decimal
decimal_of word = if is_decimal word then Some (record {
  negative = starts_with_minus word;
  digits = digits_of (without_leading_sign word);
  exponent = scale_of (without_leading_sign word);
  literal = word;
}) else None

-- at most this far from 0
pub record IsBounded (bound : ℕ) (n : ℤ) : Type 0 where
  pub low : neg_ℤ (pos bound) ≤ℤ n
  pub high : n ≤ℤ pos bound

-- the word is a decimal of these digits and this exponent
pub record IsValueOf (word : List ℕ) (digits : ℕ) (exponent : ℤ) : Type 0 where
  pub form : is_decimal word ≡ true
  pub digits_are : digits ≡ digits_of (without_leading_sign word)
  pub exponent_is : exponent ≡ scale_of (without_leading_sign word)
  pub small : IsBounded 1037 exponent

-- the text is this one before the exponent, which has its form
pub record IsSplit (text before : List ℕ) (exponent : ℤ) : Type 0 where
  pub form : has_exponent_form text ≡ true
  pub before_is : before ≡ mantissa text
  pub exponent_is : exponent ≡ exponent_of text
  pub small : IsBounded 999 exponent
