-- The text of a percent is read as that percent.
use Rattle.std.proofs.Common.{◌≡◌, ◌+◌, ◌-◌, ◌*◌, ◌/◌, ◌%◌, ◌≤◌, ◌<◌, ◌&&◌, ◌==◌, ℕ, Bool, true, List, [], ◌∷◌, ◌++◌, length, take, drop, Option, Some}
use Rattle.std.proofs.Common.{None, if◌then◌else◌, inl, inr, refl, sym, ap, ap₂, ◌∙◌, arith, append_assoc, length-append, add-zero, zero-add}
use Rattle.std.specs.Prelude.{decimal, nat_le, nat_lt, slice_index_or}
use Rattle.std.specs.Char.{digit_value, is_ascii_digit}
use Rattle.std.specs.Int.{is_in_range}
use Rattle.std.specs.List.{after_first, before_first, list_all, position_or_len}
use Rattle.std.proofs.Math.Seq.{drop-append-add, take-append_seam}
use Rattle.std.proofs.lemmas.Bool.{and_from, cases_Bool, eqb-true, lt-ltb, le-leb, le-ltb}
use Rattle.std.proofs.lemmas.Bool.Decides.{nat_tests}
use Rattle.std.proofs.lemmas.Fmt.{decimal_nonempty, digits_decimal, digits_value-decimal, length-decimal-le}
use Rattle.hd_num.specs.Decimal.{is_point}
use Rattle.hd_num.specs.Percent.{are_few_digits, digits_left, few_digits_of, fraction_of, fraction_text, percent_before, percent_of, percent_of_parts}
use Rattle.hd_num.specs.Percent.{percent_text, percent_within, thousandths_of, three_digits}
use Rattle.hd_num.proofs.WholeReadsBack.{IsNumeralModel-digits}
use Rattle.hd_num.proofs.StepsReadBack.{is_point-digit, position_or_len-past_digits}

-- the digit of a number below ten
digit_back : (a : ℕ) → a < 10 → is_ascii_digit (48 + a) ≡ true
digit_back a small = grind (arith, nat_tests)

value_back : (a : ℕ) → a < 10 → digit_value (48 + a) ≡ a
value_back a small = grind (arith, nat_tests)

-- one, two and three digits as a fraction
one_digit : (a : ℕ) → a < 10 → fraction_of ((48 + a) ∷ []) ≡ Some (a * 100)
one_digit a small = ap₂ (λ (b : Bool) (v : ℕ). if b && true then Some ((0 + v) * 100) else None) (digit_back a small) (value_back a small) ∙ ap (λ (n : ℕ). Some (n * 100)) (zero-add a)

two_digits : (a b : ℕ) → a < 10 → b < 10 → fraction_of ((48 + a) ∷ (48 + b) ∷ []) ≡ Some ((a * 10 + b) * 10)
two_digits a b small less =
    ap₂ (λ (p : Bool) (v : ℕ). if p && (is_ascii_digit (48 + b) && true) then Some (((0 + v) * 10 + digit_value (48 + b)) * 10) else None) (digit_back a small) (value_back a small)
    ∙ ap₂ (λ (p : Bool) (v : ℕ). if p && true then Some (((0 + a) * 10 + v) * 10) else None) (digit_back b less) (value_back b less)
    ∙ ap (λ (n : ℕ). Some ((n * 10 + b) * 10)) (zero-add a)

three : (a b c : ℕ) → a < 10 → b < 10 → c < 10 → fraction_of ((48 + a) ∷ (48 + b) ∷ (48 + c) ∷ []) ≡ Some (((a * 10 + b) * 10 + c) * 1)
three a b c small less few =
    ap₂ (λ (p : Bool) (v : ℕ). if p && (is_ascii_digit (48 + b) && (is_ascii_digit (48 + c) && true)) then Some
    ((((0 + v) * 10 + digit_value (48 + b)) * 10 + digit_value (48 + c)) * 1) else None) (digit_back a small) (value_back a small)
    ∙ ap₂ (λ (p : Bool) (v : ℕ). if p && (is_ascii_digit (48 + c) && true) then Some ((((0 + a) * 10 + v) * 10 + digit_value (48 + c)) * 1) else None) (digit_back b less) (value_back b less)
    ∙ ap₂ (λ (p : Bool) (v : ℕ). if p && true then Some ((((0 + a) * 10 + b) * 10 + v) * 1) else None) (digit_back c few) (value_back c few)
    ∙ ap (λ (n : ℕ). Some (((n * 10 + b) * 10 + c) * 1)) (zero-add a)

-- thousandths after the point
fraction_back : (f : ℕ) → f < 1000 → fraction_of (take (digits_left f) (three_digits f)) ≡ Some f
fraction_back f small = elim (cases_Bool (f % 100 == 0)) [
  | inl hundreds ↦
      let e = eqb-true (f % 100) 0 hundreds in
      let n : f / 100 * 100 ≡ f = omega (arith, e) in
      ap (λ (b : Bool). fraction_of (take (if b then 1 else (if f % 10 == 0 then 2 else 3)) (three_digits f))) hundreds ∙ one_digit (f / 100) (omega arith) ∙ ap Some n
  | inr no_hundreds ↦ ap (λ (b : Bool). fraction_of (take (if b then 1 else (if f % 10 == 0 then 2 else 3)) (three_digits f))) no_hundreds ∙ elim (cases_Bool (f % 10 == 0)) [
    | inl tens ↦
        let e = eqb-true (f % 10) 0 tens in
        let n : (f / 100 * 10 + f / 10 % 10) * 10 ≡ f = omega (arith, e) in
        ap (λ (b : Bool). fraction_of (take (if b then 2 else 3) (three_digits f))) tens ∙ two_digits (f / 100) (f / 10 % 10) (omega arith) (omega arith) ∙ ap Some n
    | inr no_tens ↦
        let n : ((f / 100 * 10 + f / 10 % 10) * 10 + f % 10) * 1 ≡ f = omega arith in
        ap (λ (b : Bool). fraction_of (take (if b then 2 else 3) (three_digits f))) no_tens ∙ three (f / 100) (f / 10 % 10) (f % 10) (omega arith) (omega arith) (omega arith) ∙ ap Some n
  ]
]

-- a text before the mark
mark_back : (text : List ℕ) → percent_of (text ++ 37 ∷ []) ≡ percent_before text
mark_back text =
    let word : List ℕ = text ++ 37 ∷ [] in
    let long : length word ≡ length text + 1 = length-append text (37 ∷ []) in
    let short : length word - 1 ≡ length text = omega (arith, long) in
    let some : nat_lt 0 (length word) ≡ true = lt-ltb 0 (length word) (omega (arith, long)) in
    let last : slice_index_or word (length word - 1) 0 ≡ 37 = ap (λ (n : ℕ). slice_index_or word n 0) short ∙ last_at text in
    let front : take (length word - 1) word ≡ text = ap (λ (n : ℕ). take n word) short ∙ take-append_seam text (37 ∷ []) in
    ap₂ (λ (b : Bool) (n : ℕ). if b && n == 37 then percent_before (take (length word - 1) word) else None) some last ∙ ap percent_before front
  where
    last_at : (text : List ℕ) → slice_index_or (text ++ 37 ∷ []) (length text) 0 ≡ 37
    last_at [] = refl
    last_at (x ∷ text) = last_at text

-- the wholes
few_back : (w : ℕ) → w < 1000 → few_digits_of (decimal w) ≡ Some w
few_back w small =
    let some = decimal_nonempty w (omega arith) in
    let short = length-decimal-le 3 w (omega arith) (omega arith) (omega arith) in
    let all : list_all is_ascii_digit (decimal w) ≡ true = digits_decimal IsNumeralModel-digits w (omega arith) in
    let few : are_few_digits (decimal w) ≡ true = and_from _ _ (in_range (length (decimal w)) some short) all in
    ap₂ (λ (b : Bool) (n : ℕ). if b then Some n else None) few (digits_value-decimal IsNumeralModel-digits w (omega arith))
  where
    in_range : (n : ℕ) → 0 < n → n ≤ 3 → is_in_range 1 3 n ≡ true
    in_range n some few = grind (arith, nat_tests)

-- digits are read as wholes alone
wholes_alone : (ds : List ℕ) → list_all is_ascii_digit ds ≡ true → (before_first is_point (ds ++ []) ≡ ds) × (thousandths_of (ds ++ []) ≡ Some 0)
wholes_alone ds all =
    let at : position_or_len is_point (ds ++ []) ≡ length ds = position_or_len-past_digits is_point is_point-digit ds [] all ∙ add-zero (length ds) in
    let front : before_first is_point (ds ++ []) ≡ ds = ap (λ (n : ℕ). take n (ds ++ [])) at ∙ take-append_seam ds [] in
    let short : length (ds ++ []) ≤ length ds = omega (arith, length-append {A = ℕ} ds []) in (
      front,
      ap (λ (xs : List ℕ). if nat_lt (length xs) (length (ds ++ [])) then fraction_of (after_first is_point (ds ++ [])) else Some 0) front
          ∙ ap (λ (b : Bool). if b then fraction_of (after_first is_point (ds ++ [])) else Some 0) (le-ltb (length ds) (length (ds ++ [])) short),
    )

-- what follows a point is read as thousandths
wholes_point : (ds fs : List ℕ) → list_all is_ascii_digit ds ≡ true → (before_first is_point (ds ++ 46 ∷ fs) ≡ ds) × (thousandths_of (ds ++ 46 ∷ fs) ≡ fraction_of fs)
wholes_point ds fs all =
    let text : List ℕ = ds ++ 46 ∷ fs in
    let at : position_or_len is_point text ≡ length ds = position_or_len-past_digits is_point is_point-digit ds (46 ∷ fs) all ∙ add-zero (length ds) in
    let front : before_first is_point text ≡ ds = ap (λ (n : ℕ). take n text) at ∙ take-append_seam ds (46 ∷ fs) in
    let back : after_first is_point text ≡ fs = ap (λ (n : ℕ). drop (n + 1) text) at ∙ drop-append-add ds (46 ∷ fs) 1 in
    let long : length ds < length text = omega (arith, length-append {A = ℕ} ds (46 ∷ fs)) in (
      front,
      ap (λ (xs : List ℕ). if nat_lt (length xs) (length text) then fraction_of (after_first is_point text) else Some 0) front
          ∙ ap (λ (b : Bool). if b then fraction_of (after_first is_point text) else Some 0) (lt-ltb (length ds) (length text) long) ∙ ap fraction_of back,
    )

-- the wholes and the thousandths of a text
after_wholes : (ds : List ℕ) (f : ℕ) → list_all is_ascii_digit ds ≡ true → f < 1000 → (before_first is_point (ds ++ fraction_text f) ≡ ds) × (thousandths_of (ds ++ fraction_text f) ≡ Some f)
after_wholes ds f all small = elim (cases_Bool (f == 0)) [
  | inl none ↦
      let text : fraction_text f ≡ [] = ap (λ (b : Bool). if b then [] else (46 ∷ take (digits_left f) (three_digits f))) none in
      let e = eqb-true f 0 none in
      let zero : 0 ≡ f = omega arith in
      let parts = wholes_alone ds all in
      rw text (parts.0, parts.1 ∙ ap Some zero)
  | inr some ↦
      let text : fraction_text f ≡ 46 ∷ take (digits_left f) (three_digits f) = ap (λ (b : Bool). if b then [] else (46 ∷ take (digits_left f) (three_digits f))) some in
      let parts = wholes_point ds (take (digits_left f) (three_digits f)) all in
      rw text (parts.0, parts.1 ∙ fraction_back f small)
]

-- the text of a percent is read as this percent
pub percent_of-percent_text : (t : ℕ) → t ≤ 100000 → percent_of (percent_text t) ≡ Some (record { thousandths = t })
percent_of-percent_text t most =
    let w : ℕ = t / 1000 in
    let f : ℕ = t % 1000 in
    let less : w < 1000 = omega arith in
    let small : f < 1000 = omega arith in
    let same : w * 1000 + f ≡ t = omega arith in
    let few : nat_le t 100000 ≡ true = le-leb t 100000 most in
    let text : List ℕ = decimal w ++ fraction_text f in
    let parts = after_wholes (decimal w) f (digits_decimal IsNumeralModel-digits w (omega arith)) small in
    ap percent_of (sym (append_assoc (decimal w) (fraction_text f) (37 ∷ []))) ∙ mark_back text
    ∙ ap₂ (λ (xs : List ℕ) (o : Option ℕ). percent_of_parts (few_digits_of xs) o) parts.0 parts.1
    ∙ ap (λ (o : Option ℕ). percent_of_parts o (Some f)) (few_back w less)
    ∙ ap percent_within same ∙ ap (λ (b : Bool). if b then Some (record { thousandths = t }) else None) few
