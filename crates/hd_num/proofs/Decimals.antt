-- The digits and the exponent of a decimal.
use Rattle.std.proofs.Common.{◌≡◌, ℕ, ℤ, pos, ◌+◌, ◌-◌, ◌*◌, ◌^◌, ◌<◌, ◌≤◌, List, [], ◌∷◌, ◌++◌, length, take, drop, get_or, min, Bool, true, false, not}
use Rattle.std.proofs.Common.{◌&&◌, ◌||◌, ◌==◌, ◌-ℤ◌, ap₂, eqb, ltb, Some, None, if◌then◌else◌, inl, inr, refl, sym, ap, ◌∙◌, arith, rules}
use Rattle.std.proofs.Common.{length-append}
use Rattle.std.specs.Char.{is_ascii_digit, digit_value}
use Rattle.std.specs.List.{list_all, position_or_len, before_first, after_first}
use Rattle.std.specs.Str.Parse.{digits_value, digits_value_after, signed_digits_value, starts_with_minus, without_leading_sign}
use Rattle.std.specs.Int.{is_in_range}
use Rattle.std.proofs.lemmas.Bool.{cases_Bool, eqb-true, le-ltb, and_parts, and_from, and_right, lt-ltb, le-leb}
use Rattle.std.proofs.lemmas.Bool.Decides.{nat_tests}
use mir.Syntax.{w32}
use mir.Val.{to_z, of_z}
use Rattle.std.proofs.lemmas.Int.{ints, to_z-of_z}
use Rattle.std.proofs.lemmas.List.{take_more, take_all, length-take-le}
use Rattle.std.proofs.lemmas.List.Folds.{list_all-append}
use Rattle.std.proofs.lemmas.Str.Parse.{digits_value_short}
use Rattle.bstr.specs.Bytes.{is_in}
use Rattle.hd_num.specs.Decimal.{IsSplit, IsValueOf, IsBounded, decimal_of, digits_of, fraction_digits, has_exponent, has_exponent_form, is_decimal}
use Rattle.hd_num.specs.Decimal.{is_exponent, is_exponent_mark, is_point, is_unsigned_decimal, scale_of, whole_digits}
use Rattle.hd_num.specs.Whole.{count_of, is_numeral, signed_number}
use Rattle.hd_num.proofs.LinePieces.{AgreeOn}
use Rattle.hd_num.proofs.WholeReadsBack.{IsNumeralModel-digits}
use Rattle.hd_num.proofs.Numerals.{digit_value-ascii}

-- digits after a number and one more
value_push : (n : ℕ) (ds : List ℕ) (c : ℕ) → digits_value_after 10 n (ds ++ c ∷ []) ≡ digits_value_after 10 n ds * 10 + digit_value c
value_push n [] c = refl
value_push n (d ∷ ds) c = value_push (n * 10 + digit_value d) ds c

-- digits after digits
pub digits_value_after-append : (n : ℕ) (xs ys : List ℕ) → digits_value_after 10 n (xs ++ ys) ≡ digits_value_after 10 (digits_value_after 10 n xs) ys
digits_value_after-append n [] ys = refl
digits_value_after-append n (x ∷ xs) ys = digits_value_after-append (n * 10 + digit_value x) xs ys

-- one more digit after a number, up to a top
pub digits_value_after-capped : (top before : ℕ) (text : List ℕ) (i value : ℕ) → i < length text → is_ascii_digit (get_or text i 0) ≡ true
    → value ≡ min (digits_value_after 10 before (take i text)) top
    → min (min (value * 10) top + (get_or text i 0 - 48)) top ≡ min (digits_value_after 10 before (take (i + 1) text)) top
digits_value_after-capped top before text i value lt here so_far =
    let more : digits_value_after 10 before (take (i + 1) text) ≡ digits_value_after 10 before (take i text) * 10 + digit_value (get_or text i 0) =
    ap (digits_value_after 10 before) (take_more text i 0 lt) ∙ value_push before (take i text) (get_or text i 0) in
    let digit = digit_value-ascii (get_or text i 0) here in
    omega (arith, more, digit)

-- at most three digits write a number below 1000
pub digits_value-small : (ds : List ℕ) → list_all is_ascii_digit ds ≡ true → length ds ≤ 3 → digits_value 10 ds < 1000
digits_value-small ds all few = digits_value_short IsNumeralModel-digits ds 3 all few

-- what a count says of its digits
pub record IsCount (ds : List ℕ) (n : ℕ) : Type 0 where
  pub numeral : is_numeral ds ≡ true
  pub value : n ≡ digits_value 10 ds

pub count_of-parts : (ds : List ℕ) (n : ℕ) → Some n ≡ count_of ds → IsCount ds n
count_of-parts ds n e = elim (cases_Bool (is_numeral ds && ltb (digits_value 10 ds) (2 ^ 32))) [
  | inl good ↦
      let same : Some n ≡ Some (digits_value 10 ds) = e ∙ ap (λ b. if b then Some (digits_value 10 ds) else None) good in
      record { numeral = (and_parts _ _ good).0; value = cc }
  | inr bad ↦ let none : Some n ≡ None = e ∙ ap (λ b. if b then Some (digits_value 10 ds) else None) bad in cc
]

-- few digits that are no count are no numeral
pub count_of-none : (ds : List ℕ) → None ≡ count_of ds → length ds ≤ 3 → is_numeral ds ≡ false
count_of-none ds e few = elim (cases_Bool (is_numeral ds)) [
  | inl good ↦
      let small = digits_value-small ds (and_parts _ _ good).1 few in
      let fits : ltb (digits_value 10 ds) (2 ^ 32) ≡ true = lt-ltb _ _ (omega (arith, small)) in
      let none : None ≡ Some (digits_value 10 ds) = e ∙ ap (λ b. if b then Some (digits_value 10 ds) else None) (and_from _ _ good fits) in
      cc
  | inr bad ↦ bad
]

-- the marks of an exponent
pub is_exponent_mark-is_in : AgreeOn (is_in (101 ∷ 69 ∷ [])) is_exponent_mark
unfolding is_in
is_exponent_mark-is_in x = elim (x == 101) as (λ a. (a || (x == 69 || false)) ≡ (a || x == 69)) [
  | true ↦ refl
  | false ↦ elim (x == 69) as (λ b. (b || false) ≡ b) [ true ↦ refl | false ↦ refl ]
]

-- the first mark is before the end
marked : (text : List ℕ) (place : ℕ) → position_or_len is_exponent_mark text ≡ place → place < length text → has_exponent text ≡ true
marked text place at inside = lt-ltb _ _ (rw at (rw (length-take-le place text (omega arith)) inside))

-- no mark is before the end
unmarked : (text : List ℕ) → position_or_len is_exponent_mark text ≡ length text → has_exponent text ≡ false
unmarked text at = le-ltb _ _ (rw at (rw (length-take-le (length text) text (omega arith)) (omega arith)))

-- the exponent after a mark
pub IsSplit-found : (text rest : List ℕ) (place : ℕ) (exponent : ℤ) → position_or_len is_exponent_mark text ≡ place → place < length text → rest ≡ drop (place + 1) text
    → is_exponent rest ≡ true → exponent ≡ signed_digits_value 10 rest → IsBounded 999 exponent → IsSplit text (take place text) exponent
IsSplit-found text rest place exponent at inside is form value small =
    let has = marked text place at inside in
    let after : after_first is_exponent_mark text ≡ rest = ap (λ n. drop (n + 1) text) at ∙ sym is in
    record {
      form = ap (λ b. if b then is_exponent (after_first is_exponent_mark text) else true) has ∙ ap is_exponent after ∙ form;
      before_is = ap (λ n. take n text) (sym at);
      exponent_is = value ∙ sym (ap (λ b. if b then signed_digits_value 10 (after_first is_exponent_mark text) else pos 0) has ∙ ap (signed_digits_value 10) after);
      small = small;
    }

-- what follows a mark is no exponent
pub has_exponent_form-broken : (text rest : List ℕ) (place : ℕ) → position_or_len is_exponent_mark text ≡ place → place < length text → rest ≡ drop (place + 1) text
    → is_exponent rest ≡ false → has_exponent_form text ≡ false
has_exponent_form-broken text rest place at inside is broken =
    let has = marked text place at inside in
    let after : after_first is_exponent_mark text ≡ rest = ap (λ n. drop (n + 1) text) at ∙ sym is in
    ap (λ b. if b then is_exponent (after_first is_exponent_mark text) else true) has ∙ ap is_exponent after ∙ broken

-- a text without a mark
pub IsSplit-none : (text : List ℕ) → position_or_len is_exponent_mark text ≡ length text → IsSplit text text (pos 0)
IsSplit-none text at =
    let has = unmarked text at in
    record {
      form = ap (λ b. if b then is_exponent (after_first is_exponent_mark text) else true) has;
      before_is = sym (ap (λ n. take n text) at ∙ take_all (length text) text (omega arith));
      exponent_is = sym (ap (λ b. if b then signed_digits_value 10 (after_first is_exponent_mark text) else pos 0) has);
      small = record { low = search rules; high = search rules };
    }

-- at most 38 digits write a number that fits 128 bits
uncapped : (ds : List ℕ) → list_all is_ascii_digit ds ≡ true → length ds ≤ 38 → min (digits_value 10 ds) (2 ^ 128 - 1) ≡ digits_value 10 ds
uncapped ds all few =
    let small : digits_value 10 ds < 10 ^ 38 = digits_value_short IsNumeralModel-digits ds 38 all few in
    omega arith

-- the digits before and after the point
pub digits_value-joined : (whole fraction : List ℕ) (first number : ℕ) → list_all is_ascii_digit whole ≡ true → list_all is_ascii_digit fraction ≡ true → length whole + length fraction ≤ 38
    → first ≡ min (digits_value 10 whole) (2 ^ 128 - 1) → number ≡ min (digits_value_after 10 first fraction) (2 ^ 128 - 1) → number ≡ digits_value 10 (whole ++ fraction)
digits_value-joined whole fraction first number all more few first_is number_is =
    let front : first ≡ digits_value 10 whole = first_is ∙ uncapped whole all (omega arith) in
    let both : list_all is_ascii_digit (whole ++ fraction) ≡ true = list_all-append is_ascii_digit whole fraction ∙ and_from _ _ all more in
    let value : digits_value 10 (whole ++ fraction) ≡ digits_value_after 10 first fraction = digits_value_after-append 0 whole fraction ∙ ap (λ n. digits_value_after 10 n fraction) (sym front) in
    number_is ∙ ap (λ n. min n (2 ^ 128 - 1)) (sym value) ∙ uncapped (whole ++ fraction) both (rw length-append few)

-- the parts of a decimal
pub IsValueOf-found : (word unsigned before whole fraction : List ℕ) (number : ℕ) (exponent scale : ℤ) → unsigned ≡ without_leading_sign word → IsSplit unsigned before exponent
    → whole ≡ before_first is_point before → fraction ≡ after_first is_point before → length word ≤ 64 → 1 ≤ length whole + length fraction → length whole + length fraction ≤ 38
    → list_all is_ascii_digit whole ≡ true → list_all is_ascii_digit fraction ≡ true → number ≡ digits_value 10 (whole ++ fraction)
    → scale ≡ exponent -ℤ pos (length fraction) → IsBounded 1037 scale → IsValueOf word number scale
IsValueOf-found word unsigned before whole fraction number exponent scale is split whole_is fraction_is short some few all more value scale_is small =
    let ds : whole ≡ whole_digits unsigned = whole_is ∙ ap (before_first is_point) split.before_is in
    let fs : fraction ≡ fraction_digits unsigned = fraction_is ∙ ap (after_first is_point) split.before_is in
    let count : is_in_range 1 38 (length whole + length fraction) ≡ true = and_from _ _ (le-leb _ _ some) (le-leb _ _ few) in
    let rest : is_unsigned_decimal unsigned ≡ true =
    and_from _ _ (and_from _ _ (and_from _ _ split.form (rw (← ds, ← fs) count)) (rw (← ds) all)) (rw (← fs) more) in
    record {
      form = and_from _ _ (le-leb _ _ short) (rw (← is) rest);
      digits_are = value ∙ ap₂ (λ (xs ys : List ℕ). digits_value 10 (xs ++ ys)) ds fs ∙ ap digits_of is;
      exponent_is = scale_is ∙ ap₂ (λ (z : ℤ) (ys : List ℕ). z -ℤ pos (length ys)) split.exponent_is fs ∙ ap scale_of is;
      small = small;
    }

-- the decimal that a word writes, by its parts
pub decimal_of-is : (word : List ℕ) (number : ℕ) (scale : ℤ) (negative : Bool) (literal : List ℕ) → IsValueOf word number scale → negative ≡ starts_with_minus word → literal ≡ word
    → Some (record { negative = negative; digits = number; exponent = scale; literal = literal }) ≡ decimal_of word
unfolding decimal_of
decimal_of-is word number scale negative literal value minus is = rw (value.form, value.digits_are, value.exponent_is, minus, is) refl

pub decimal_of-none : (word : List ℕ) → is_decimal word ≡ false → None ≡ decimal_of word
unfolding decimal_of
decimal_of-none word broken = rw broken refl

-- what is no numeral is no exponent
pub is_exponent-broken : (text ds : List ℕ) → ds ≡ without_leading_sign text → is_numeral ds ≡ false → is_exponent text ≡ false
is_exponent-broken text ds is broken = rw (← is) (elim (cases_Bool (list_all is_ascii_digit ds)) [
  | inl all ↦
      let none : eqb (length ds) 0 ≡ true = grind (arith, nat_tests) in
      rw (eqb-true (length ds) 0 none) refl
  | inr some ↦ and_right _ _ some
])

-- a count of at most three digits, with a sign or none, is an exponent
pub is_exponent-right : (text ds : List ℕ) (n : ℕ) (negative : Bool) (z : ℤ) → ds ≡ without_leading_sign text → length ds ≤ 3 → IsCount ds n → negative ≡ starts_with_minus text
    → z ≡ signed_number negative n
    → (is_exponent text ≡ true) × (z ≡ signed_digits_value 10 text)
is_exponent-right text ds n negative z is few count minus z_is =
    let parts : (not (eqb (length ds) 0) ≡ true) × (list_all is_ascii_digit ds ≡ true) = and_parts _ _ count.numeral in
    let filled = parts.0 in
    let some : 1 ≤ length ds = grind (arith, nat_tests) in
    let form : is_exponent text ≡ true = rw (← is) (and_from _ _ (and_from _ _ (le-leb _ _ some) (le-leb _ _ few)) parts.1) in
    (form, z_is ∙ rw (minus, count.value, is) refl)

-- a small number is kept in 32 bits
pub IsBounded-kept : (z : ℤ) (bound : ℕ) → bound ≤ 1037 → IsBounded bound z → to_z w32 (of_z w32 z) ≡ z
IsBounded-kept z bound few small =
    let low = small.low in
    let high = small.high in
    to_z-of_z w32 z (omega (arith, ints))

-- an exponent less a few digits is kept in 32 bits
pub exponent-scaled : (exponent : ℤ) (few : ℕ) → few ≤ 38 → IsBounded 999 exponent → to_z w32 (of_z w32 (to_z w32 (of_z w32 exponent) -ℤ to_z w32 few)) ≡ exponent -ℤ pos few
exponent-scaled exponent few short small =
    let low = small.low in
    let high = small.high in
    rw (IsBounded-kept exponent 999 (omega arith) small) (omega (arith, ints))

-- and stays small
pub IsBounded-scaled : (exponent : ℤ) (few : ℕ) → few ≤ 38 → IsBounded 999 exponent → IsBounded 1037 (exponent -ℤ pos few)
IsBounded-scaled exponent few short small =
    let low = small.low in
    let high = small.high in
    record { low = omega (arith, ints); high = omega (arith, ints) }
