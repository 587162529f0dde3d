-- Decimals at the front of a text.
use Rattle.std.proofs.Common.{◌≡◌, ◌+◌, ◌*◌, ◌<◌, ◌≤◌, ◌^◌, ℕ, zero, suc, pos, neg_ℤ, Bool, true, false, eqb, List, [], ◌∷◌, ◌++◌, length, take, drop}
use Rattle.std.proofs.Common.{get_or, Some, refl, sym, ap, ap₂, subst, ◌∙◌, arith, inl, inr, length-append}
use Rattle.std.specs.Char.{is_ascii_digit}
use Rattle.std.specs.List.{list_all, list_any, position_or_len}
use Rattle.std.specs.Str.Parse.{starts_with_minus, without_leading_sign}
use Rattle.std.proofs.Math.Seq.{drop-append_seam, take-append_seam}
use Rattle.std.proofs.lemmas.Bool.{cases_Bool, ne_eqb, or_from, or_parts}
use Rattle.std.proofs.lemmas.List.Folds.{list_any-append}
use Rattle.hd_num.proofs.StepsReadBack.{IsTail, decimal_of-word, IsTail-none, IsTail-point}
use Rattle.hd_num.specs.Decimal.{decimal_of}
use Rattle.hd_num.specs.declared.decimal.Decimal.{Decimal}
use Rattle.hd_sdf_read.specs.declared.scaled.Datum.TheVariants.{Measured}
use Rattle.hd_sdf_read.specs.Decimals.{most_steps, places_below, power_above}
use Rattle.hd_sdf_read.specs.Tokens.{is_gap}
use Rattle.hd_sdf_read.specs.DecimalTokens.{AreUnits, TakesDecimal, pointed}
use Rattle.hd_sdf_read.proofs.Gapless.{is_gap-digits, is_gap-signed}

-- a text without gaps ends at a gap or with the text
pub position_or_len-token : (word rest : List ℕ) → list_any is_gap word ≡ false → (0 < length rest → is_gap (get_or rest 0 0) ≡ true) → position_or_len is_gap (word ++ rest) ≡ length word
position_or_len-token [] [] none ends = refl
position_or_len-token [] (r ∷ rs) none ends = rw (ends (omega arith)) refl
position_or_len-token (w ∷ ws) rest none ends =
    let parts = or_parts (is_gap w) (list_any is_gap ws) none in
    let more = position_or_len-token ws rest parts.1 ends in
    rw (parts.0, more) (omega arith)

-- a word behind a sign or none, at the front of a text
record IsFront (text word rest : List ℕ) : Type 0 where
  token : List ℕ
  text_is : text ≡ token ++ rest
  unsigned : without_leading_sign token ≡ word
  minus : starts_with_minus token ≡ starts_with_minus text
  short : length token ≤ length word + 1
  some : 0 < length token

-- a byte that is no sign begins the word
plain_front : (x : ℕ) (xs word rest : List ℕ) → 0 < length word → eqb x 45 ≡ false → eqb x 43 ≡ false → x ∷ xs ≡ word ++ rest → IsFront (x ∷ xs) word rest
plain_front x xs [] rest some no_minus no_plus is = absurd (omega arith)
plain_front x xs (w ∷ ws) rest some no_minus no_plus is =
    let first : x ≡ w = cc in
    let minus : eqb w 45 ≡ false = ap (λ b. eqb b 45) (sym first) ∙ no_minus in
    let plus : eqb w 43 ≡ false = ap (λ b. eqb b 43) (sym first) ∙ no_plus in
    record { token = w ∷ ws; text_is = is; unsigned = rw (minus, plus) refl; minus = minus ∙ sym no_minus; short = omega arith; some = omega arith }

front_of : (text word rest : List ℕ) → 0 < length word → without_leading_sign text ≡ word ++ rest → IsFront text word rest
front_of [] word rest some is = let none : 0 ≡ length word + length rest = ap length is ∙ length-append word rest in absurd (omega (arith, none, some))
front_of (x ∷ xs) word rest some is = elim (cases_Bool (eqb x 45)) [
  | inl minus ↦
      let rest_is : xs ≡ word ++ rest = sym (rw minus refl) ∙ is in
      record { token = x ∷ word; text_is = ap (λ (t : List ℕ). x ∷ t) rest_is; unsigned = rw minus refl; minus = refl; short = omega arith; some = omega arith }
  | inr no_minus ↦ elim (cases_Bool (eqb x 43)) [
    | inl plus ↦
        let rest_is : xs ≡ word ++ rest = sym (rw (no_minus, plus) refl) ∙ is in
        record { token = x ∷ word; text_is = ap (λ (t : List ℕ). x ∷ t) rest_is; unsigned = rw (no_minus, plus) refl; minus = refl; short = omega arith; some = omega arith }
    | inr no_plus ↦ plain_front x xs word rest some no_minus no_plus (sym (rw (no_minus, no_plus) refl) ∙ is)
  ]
]

-- the exponent of digits after a point
pub places_below-is : (places : ℕ) → places_below (neg_ℤ (pos places)) ≡ places
places_below-is zero = refl
places_below-is (suc n) = refl

pub power_above-is : (units places : ℕ) → units * 10 ^ power_above (neg_ℤ (pos places)) ≡ units
power_above-is units zero = omega arith
power_above-is units (suc n) = omega arith

-- a point and digits, or nothing
tail_is : (point : Bool) (fraction : List ℕ) → (point ≡ false → fraction ≡ []) → list_all is_ascii_digit fraction ≡ true → IsTail (pointed point fraction) fraction
tail_is true fraction bare all = IsTail-point fraction all
tail_is false fraction bare all = subst (λ (fs : List ℕ). IsTail [] fs) (sym (bare refl)) IsTail-none

tail_gapless : (point : Bool) (fraction : List ℕ) → list_all is_ascii_digit fraction ≡ true → list_any is_gap (pointed point fraction) ≡ false
tail_gapless true fraction all = is_gap-digits fraction all
tail_gapless false fraction all = refl

tail_size : (point : Bool) (fraction : List ℕ) → (point ≡ false → fraction ≡ []) → (length fraction ≤ length (pointed point fraction)) × (length (pointed point fraction) ≤ length fraction + 1)
tail_size true fraction bare = (omega arith, omega arith)
tail_size false fraction bare = let none : length fraction ≡ 0 = ap length (bare refl) in (omega (arith, none), omega arith)

-- digits with a sign or none and a point or none, up to a gap or the end
pub TakesDecimal-taken : (text unsigned rest : List ℕ) (units places : ℕ) (negative : Bool) → unsigned ≡ without_leading_sign text → AreUnits unsigned units places rest
    → (0 < length rest → is_gap (get_or rest 0 0) ≡ true)
    → negative ≡ starts_with_minus text → units ≤ most_steps → TakesDecimal text rest (Measured negative units places)
TakesDecimal-taken text unsigned rest units places negative is are ends minus small =
    let tail : List ℕ = pointed are.point are.fraction in
    let word : List ℕ = are.whole ++ tail in
    let sizes = tail_size are.point are.fraction are.bare in
    let low = sizes.0 in
    let high = sizes.1 in
    let some = are.some in
    let few = are.few in
    let size = length-append are.whole tail in
    let front = front_of text word rest (omega (arith, size, some, low)) (sym is ∙ are.text_is) in
    let short = front.short in
    let gapless : list_any is_gap word ≡ false =
    list_any-append is_gap are.whole tail ∙ or_from _ _ (is_gap-digits are.whole are.whole_digits) (tail_gapless are.point are.fraction are.fraction_digits) in
    let end : position_or_len is_gap text ≡ length front.token =
    ap (position_or_len is_gap) front.text_is ∙ position_or_len-token front.token rest (is_gap-signed front.token (ap (list_any is_gap) front.unsigned ∙ gapless)) ends in
    let decimal : Decimal = record { negative = negative; digits = units; exponent = neg_ℤ (pos places); literal = front.token } in
    let read : Some decimal ≡ decimal_of front.token =
    decimal_of-word front.token are.whole tail are.fraction negative units places front.unsigned (front.minus ∙ sym minus) (omega (arith, short, size, few, high))
    are.whole_digits are.fraction_digits some (omega (arith, few)) are.places_are (tail_is are.point are.fraction are.bare are.fraction_digits) are.units_are in
    let count = are.places_are in
    record {
      token = front.token;
      place = ap (λ n. take n text) end ∙ ap (take (length front.token)) front.text_is ∙ take-append_seam front.token rest;
      after = ap (λ n. drop n text) end ∙ ap (drop (length front.token)) front.text_is ∙ drop-append_seam front.token rest;
      filled = (let filled = front.some in ne_eqb (length front.token) 0 (λ none. omega (arith, none, filled)));
      decimal = decimal;
      is_decimal = sym read;
      is_measured = ap₂ (Measured negative) (power_above-is units places) (places_below-is places);
      small = (omega (arith, few, count), small);
    }
