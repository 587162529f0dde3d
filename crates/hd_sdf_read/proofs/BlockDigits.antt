-- The digits at the front of a block of bytes.
use Rattle.std.proofs.Common.{◌≡◌, ◌+◌, ◌-◌, ◌%◌, ◌<◌, ◌≤◌, ℕ, zero, suc, true, not, leb, List, [], ◌∷◌, length, map, take, inl, inr, refl, sym, ap, arith, ◌∙◌, w8}
use lib.Count.{count_trailing_zeros}
use mir.Val.{Fits}
use Rattle.std.specs.Char.{digit_value, is_ascii_digit}
use Rattle.std.specs.Int.Digits.{AllBelowBase, number_from_digits}
use Rattle.std.specs.List.{list_all, prefix_len}
use Rattle.std.specs.Simd.Lanes.{Each1, mask_l}
use Rattle.std.proofs.lemmas.Bool.{and_from, cases_Bool, leb-false}
use Rattle.std.proofs.lemmas.Bool.Decides.{nat_tests}
use Rattle.std.proofs.lemmas.Int.Digits.{digits_value_is}
use Rattle.std.proofs.lemmas.List.{length-map, take-take}
use Rattle.std.proofs.lemmas.Simd.{trailing_mask_l}
use Rattle.std.specs.Int.Count.{trailing_of_zero}
use Rattle.hd_num.proofs.Numerals.{digits_value-bound}
use Rattle.hd_sdf_read.specs.WholeTokens.{AreDigits}

-- how far a byte is over `0`
abbrev pub over_zero : ℕ → ℕ
over_zero byte = (byte + (256 - 48)) % 256

-- that is less than 10 at a digit alone, and its value
is_digit : (byte : ℕ) → byte < 256 → over_zero byte < 10 → is_ascii_digit byte ≡ true
is_digit byte small few = let within : (48 ≤ byte) × (byte ≤ 57) = omega arith in grind (arith, nat_tests)

digit_is : (byte : ℕ) → byte < 256 → over_zero byte < 10 → over_zero byte ≡ digit_value byte
digit_is byte small few =
    let within : (48 ≤ byte) × (byte ≤ 57) = omega arith in
    let value : digit_value byte ≡ byte - 48 = grind (arith, nat_tests) in
    omega (arith, value, within)

pub AllBelowBase-bytes : (xs : List ℕ) → Each1 (Fits w8) xs → AllBelowBase 256 xs
AllBelowBase-bytes [] fits = tt
AllBelowBase-bytes (x ∷ xs) fits = (fits.0.fits, AllBelowBase-bytes xs fits.1)

pub AllBelowBase-over_zero : (xs : List ℕ) → AllBelowBase 256 (map over_zero xs)
AllBelowBase-over_zero [] = tt
AllBelowBase-over_zero (x ∷ xs) = (omega arith, AllBelowBase-over_zero xs)

pub AllBelowBase-each : (xs : List ℕ) → AllBelowBase 256 xs → Each1 (λ x. x < 256) xs
AllBelowBase-each [] below = tt
AllBelowBase-each (x ∷ xs) below = (below.0, AllBelowBase-each xs below.1)

pub AllBelowBase-first : (n : ℕ) (xs : List ℕ) → AllBelowBase 256 xs → AllBelowBase 256 (take n xs)
AllBelowBase-first zero xs below = tt
AllBelowBase-first (suc n) [] below = tt
AllBelowBase-first (suc n) (x ∷ xs) below = (below.0, AllBelowBase-first n xs below.1)

-- the lanes of the digits at the front
record Leads (xs : List ℕ) (n : ℕ) : Type 0 where
  digits : list_all is_ascii_digit (take n xs) ≡ true
  below : AllBelowBase 10 (take n (map over_zero xs))
  values : take n (map over_zero xs) ≡ map digit_value (take n xs)

leads : (xs : List ℕ) (n : ℕ) → AllBelowBase 256 xs → n ≤ prefix_len (λ x. not (leb 10 x)) (map over_zero xs) → Leads xs n
leads xs zero bytes front = record { digits = refl; below = tt; values = refl }
leads [] (suc n) bytes front = absurd (omega arith)
leads (x ∷ xs) (suc n) bytes front = elim (cases_Bool (leb 10 (over_zero x))) [
  | inl other ↦ absurd (omega (arith, rw other at front))
  | inr digit ↦
      let few : over_zero x < 10 = leb-false 10 (over_zero x) digit in
      let rest = leads xs n bytes.1 (omega (arith, rw digit at front)) in
      record {
        digits = and_from _ _ (is_digit x bytes.0 few) rest.digits;
        below = (few, rest.below);
        values = λ i. digit_is x bytes.0 few i ∷ rest.values i;
      }
]

-- a bit is set where so few are below the lowest
pub count_trailing_zeros-some : (mask : ℕ) → count_trailing_zeros 64 mask ≤ 8 → 0 < mask
count_trailing_zeros-some zero few = absurd (omega (arith, trailing_of_zero 64, few))
count_trailing_zeros-some (suc mask) few = omega arith

-- the lowest bit is that of the first byte that is no digit
pub count_trailing_zeros-digits : (block : List ℕ) (mask : ℕ) → length block ≡ 16 → mask ≡ mask_l (map (leb 10) (map over_zero block)) → count_trailing_zeros 64 mask ≤ 8
    → count_trailing_zeros 64 mask ≡ prefix_len (λ x. not (leb 10 x)) (map over_zero block)
count_trailing_zeros-digits block mask long is few =
    ap (count_trailing_zeros 64) is
    ∙ trailing_mask_l (leb 10) 64 (map over_zero block) (omega (arith, long, length-map block over_zero)) (count_trailing_zeros-some (mask_l (map (leb 10) (map over_zero block))) (rw is at few))

module _ (text : List ℕ) (count : ℕ) (room : 16 ≤ length text) (fits : Each1 (Fits w8) (take 16 text)) (few : count ≤ 8)
    (count_trailing_zeros-digits : count ≡ prefix_len (λ x. not (leb 10 x)) (map over_zero (take 16 text))) where
  block : Leads (take 16 text) count
  block = leads (take 16 text) count (AllBelowBase-bytes (take 16 text) fits) (omega (arith, count_trailing_zeros-digits))

  same : take count (take 8 (map over_zero (take 16 text))) ≡ take count (map over_zero (take 16 text))
  same = take-take count 8 (map over_zero (take 16 text)) few

  pub AllBelowBase-first_digits : AllBelowBase 10 (take count (take 8 (map over_zero (take 16 text))))
  AllBelowBase-first_digits = rw same block.below

  -- they are the digits at the front of the text
  pub AreDigits-block : (n : ℕ) → n ≡ number_from_digits 10 (take count (take 8 (map over_zero (take 16 text)))) → AreDigits text count n
  AreDigits-block n is =
      let front : take count (take 16 text) ≡ take count text = take-take count 16 text (omega (arith, few)) in
      let digits = rw front at block.digits in
      let value = is ∙ ap (number_from_digits 10) (same ∙ block.values) ∙ sym (digits_value_is 10 (take count (take 16 text))) in
      let value_is = rw front at value in
      record { within = omega (arith, few, room); digits = digits; value = value_is; bound = digits_value-bound text count n (omega (arith, few)) digits value_is }
