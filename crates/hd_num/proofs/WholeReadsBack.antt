-- A printed number reads back as the number.
use Rattle.std.proofs.Common.{◌≡◌, ◌≢◌, ℕ, suc, ◌^◌, ◌<◌, ℤ, pos, negsuc, neg_ℤ, length, drop, get_or, true, false, not, ◌&&◌, Some, None, if◌then◌else◌, arith, rules, ◌∙◌, ap, ap₂}
use Rattle.std.specs.Char.{is_ascii_digit}
use Rattle.std.specs.Fmt.{decimal, signed_decimal}
use Rattle.std.specs.Int.{w64}
use Rattle.std.specs.Int.RustNames.{FitsSigned}
use Rattle.std.specs.List.{list_all}
use Rattle.std.specs.Prelude.{nat_lt}
use Rattle.std.specs.Str.Parse.{digits_value, signed_digits_value, starts_with_minus, without_leading_plus, without_leading_sign}
use Rattle.std.proofs.lemmas.Bool.{lt-ltb, ne_eqb}
use Rattle.std.proofs.lemmas.Fmt.{decimal_nonempty, digits_decimal, digits_value-decimal}
use Rattle.std.proofs.lemmas.Str.Parse.{IsNumeralModel, not_in_digits, numerals_by_value, without_leading_plus_none}
use Rattle.hd_num.specs.Whole.{count_of, is_numeral, whole_of, whole_of_value, whole_value}
use Rattle.hd_num.specs.declared.whole.Whole.TheVariants.{Is, Outside}

-- digits and their value, as std's lemmas speak of them
pub IsNumeralModel-digits : IsNumeralModel (λ ds. list_all is_ascii_digit ds ≡ true) (digits_value 10)
IsNumeralModel-digits = numerals_by_value _ (search rules)

-- printed digits are a numeral
is_numeral-decimal : (n : ℕ) → n < 2 ^ 64 → is_numeral (decimal n) ≡ true
is_numeral-decimal n small =
    let some = decimal_nonempty n small in
    ap₂ (λ a b. a && b) (ap not (ne_eqb (length (decimal n)) 0 (λ none. omega (arith, none, some)))) (digits_decimal IsNumeralModel-digits n small)

-- a printed count reads back
pub count_of-decimal : (n : ℕ) → n < 2 ^ 32 → count_of (decimal n) ≡ Some n
count_of-decimal n small =
    ap₂ (λ a m. if a && nat_lt m (2 ^ 32) then Some m else None) (is_numeral-decimal n (omega arith)) (digits_value-decimal IsNumeralModel-digits n (omega arith))
    ∙ ap (λ b. if b then Some n else None) (lt-ltb n (2 ^ 32) small)

-- printed digits begin with no sign
pub decimal-first : (n sign : ℕ) → n < 2 ^ 64 → sign < 48 → get_or (decimal n) 0 0 ≢ sign
decimal-first n sign small low = not_in_digits IsNumeralModel-digits (decimal n) sign (digits_decimal IsNumeralModel-digits n small) (λ within. omega arith) 0 (decimal_nonempty n small)

-- printed digits have no sign to take away
without_leading_sign-decimal : (n : ℕ) → n < 2 ^ 64 → without_leading_sign (decimal n) ≡ decimal n
without_leading_sign-decimal n small =
    ap (λ b. if b then drop 1 (decimal n) else without_leading_plus (decimal n)) (ne_eqb (get_or (decimal n) 0 0) 45 (decimal-first n 45 small (omega arith)))
    ∙ without_leading_plus_none (decimal n) (decimal-first n 43 small (omega arith))

-- the value of printed digits
pub whole_value-decimal : (n : ℕ) → n < 2 ^ 64 → whole_value (decimal n) ≡ Some (pos n)
whole_value-decimal n small =
    let minus : starts_with_minus (decimal n) ≡ false = ne_eqb (get_or (decimal n) 0 0) 45 (decimal-first n 45 small (omega arith)) in
    let rest = without_leading_sign-decimal n small in
    let value : signed_digits_value 10 (decimal n) ≡ pos n =
    ap₂ (λ b ds. if b then neg_ℤ (pos (digits_value 10 ds)) else pos (digits_value 10 ds)) minus rest ∙ ap pos (digits_value-decimal IsNumeralModel-digits n small) in
    ap₂ (λ b z. if b then Some z else None) (ap is_numeral rest ∙ is_numeral-decimal n small) value

-- a printed whole number reads back
pub whole_of-signed_decimal : (z : ℤ) → FitsSigned w64 z → whole_of (signed_decimal z) ≡ Is z
whole_of-signed_decimal (pos n) fits =
    let small : n < 2 ^ 63 = fits.sfits in
    ap whole_of_value (whole_value-decimal n (omega arith)) ∙ ap (λ b. if b then Is (pos n) else Outside) (lt-ltb n (2 ^ 63) small)
whole_of-signed_decimal (negsuc n) fits =
    let small : n < 2 ^ 63 = fits.sfits in
    ap₂ (λ b m. whole_of_value (if b then Some (neg_ℤ (pos m)) else None)) (is_numeral-decimal (suc n) (omega arith)) (digits_value-decimal IsNumeralModel-digits (suc n) (omega arith))
    ∙ ap (λ b. if b then Is (negsuc n) else Outside) (lt-ltb n (2 ^ 63) small)
