-- The value of digits that saturates, one digit after another.
use Rattle.std.proofs.Common.{◌≡◌, ℕ, ◌+◌, ◌-◌, ◌*◌, ◌^◌, ◌<◌, List, length, get_or, take, min, true, ◌≤◌, length-take, ◌&&◌, arith, ◌∙◌, ap}
use Rattle.std.specs.Char.{is_ascii_digit, digit_value}
use Rattle.std.specs.List.{list_all}
use Rattle.std.specs.Str.Parse.{digits_value}
use Rattle.std.proofs.lemmas.Bool.Decides.{nat_tests}
use Rattle.std.proofs.lemmas.Int.Digits.{digits_value_more}
use Rattle.std.proofs.lemmas.List.Folds.{list_all_more}
use Rattle.std.proofs.lemmas.Str.Parse.{digits_value_short}
use Rattle.hd_num.proofs.WholeReadsBack.{IsNumeralModel-digits}

-- the value of an ASCII digit
pub digit_value-ascii : (c : ℕ) → is_ascii_digit c ≡ true → digit_value c ≡ c - 48
digit_value-ascii c h = grind (arith, nat_tests)

-- one more digit
pub is_ascii_digit-more : (word : List ℕ) (i : ℕ) → i < length word → is_ascii_digit (get_or word i 0) ≡ true
    → list_all is_ascii_digit (take i word) ≡ true → list_all is_ascii_digit (take (i + 1) word) ≡ true
is_ascii_digit-more word i lt here before = list_all_more is_ascii_digit word i 0 lt ∙ ap (λ b. b && is_ascii_digit (get_or word i 0)) before ∙ here

-- one more digit of a value that saturates
pub digits_value-saturated : (word : List ℕ) (i value : ℕ) → i < length word → is_ascii_digit (get_or word i 0) ≡ true
    → value ≡ min (digits_value 10 (take i word)) (2 ^ 64 - 1)
    → min (min (value * 10) (2 ^ 64 - 1) + (get_or word i 0 - 48)) (2 ^ 64 - 1) ≡ min (digits_value 10 (take (i + 1) word)) (2 ^ 64 - 1)
digits_value-saturated word i value lt here so_far =
    let more = digits_value_more 10 word i lt in
    let digit = digit_value-ascii (get_or word i 0) here in
    omega (arith, more, digit)

-- one more digit of a value
pub digits_value-more : (word : List ℕ) (i : ℕ) → i < length word → is_ascii_digit (get_or word i 0) ≡ true
    → digits_value 10 (take (i + 1) word) ≡ digits_value 10 (take i word) * 10 + (get_or word i 0 - 48)
digits_value-more word i lt here = digits_value_more 10 word i lt ∙ ap (λ n. digits_value 10 (take i word) * 10 + n) (digit_value-ascii (get_or word i 0) here)

-- at most eighteen digits write a number below 10 ^ 18
pub digits_value-bound : (word : List ℕ) (i n : ℕ) → i ≤ 18 → list_all is_ascii_digit (take i word) ≡ true → n ≡ digits_value 10 (take i word) → n < 1000000000000000000
digits_value-bound word i n few all value = rw value (digits_value_short IsNumeralModel-digits (take i word) 18 all (rw length-take (omega arith)))
