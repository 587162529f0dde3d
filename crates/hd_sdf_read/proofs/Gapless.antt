-- Texts without blanks and LFs: numbers.
use Rattle.std.proofs.Common.{◌≡◌, ◌+◌, ◌-◌, ◌<◌, ◌≤◌, ℕ, ℤ, suc, Bool, true, false, not, List, [], ◌∷◌, length, drop, get_or, eqb, leb, cond, Some}
use Rattle.std.proofs.Common.{None, refl, sym, ap, arith, ◌∙◌, inl, inr, length-take}
use Rattle.std.specs.Char.{is_ascii_digit}
use Rattle.std.specs.List.{after_first, before_first, list_all, list_any, position_or_len}
use Rattle.std.specs.Str.Parse.{signed_digits_value, without_leading_sign}
use Rattle.std.proofs.lemmas.Bool.{and_from, and_parts, cases_Bool, cases_lt, eqb-true, le-leb, leb-true, or_from, or_parts, lt-ltb}
use Rattle.std.proofs.lemmas.Bool.Decides.{nat_tests}
use Rattle.std.proofs.lemmas.List.{drop_all}
use Rattle.std.proofs.lemmas.List.Folds.{list_any_at}
use Rattle.std.proofs.lemmas.List.Sums.{take_while-cons}
use Rattle.std.proofs.lemmas.Slice.Eq.{bytes_eq-Decides}
use Rattle.hd_num.specs.Decimal.{decimal_of, fraction_digits, has_exponent, has_exponent_form, is_decimal, is_exponent, is_exponent_mark, is_point, is_unsigned_decimal, mantissa, whole_digits}
use Rattle.hd_num.specs.Lines.{is_blank, is_line_feed, trimmed, without_start}
use Rattle.hd_num.specs.Whole.{is_numeral, whole_of, whole_of_value}
use Rattle.hd_num.specs.declared.decimal.Decimal.{Decimal}
use Rattle.hd_num.specs.declared.whole.Whole.TheVariants.{Is, Not}
use Rattle.hd_sdf_read.specs.File.{is_header_value}
use Rattle.hd_sdf_read.specs.Tokens.{is_gap, token_of}
use Rattle.hd_sdf_read.proofs.WholeFronts.{is_gap-digit}
use Rattle.hd_sdf_read.proofs.Trims.{IsTrimmed, IsTrimmed-same, before_first-none}

-- a test that fails wherever another fails
any_weaker : (p q : ℕ → Bool) → ((x : ℕ) → p x ≡ false → q x ≡ false) → (text : List ℕ) → list_any p text ≡ false → list_any q text ≡ false
any_weaker p q weaker [] none = refl
any_weaker p q weaker (x ∷ xs) none =
    let parts = or_parts (p x) (list_any p xs) none in
    or_from _ _ (weaker x parts.0) (any_weaker p q weaker xs parts.1)

-- no byte passes
at_none : (p : ℕ → Bool) (text : List ℕ) (k : ℕ) → list_any p text ≡ false → k < length text → p (get_or text k 0) ≡ false
at_none p text k none inside = elim (cases_Bool (p (get_or text k 0))) [
  | inl passes ↦ let wrong : true ≡ false = sym (list_any_at p text k 0 inside passes) ∙ none in cc
  | inr fails ↦ fails
]

-- such a text is a value
pub is_header_value-gapless : (text : List ℕ) → length text ≤ 896 → list_any is_gap text ≡ false → is_header_value text ≡ true
is_header_value-gapless text short none =
    let blank : list_any is_blank text ≡ false = any_weaker is_gap is_blank (λ x gap. (or_parts (is_blank x) (is_line_feed x) gap).0) text none in
    let one : list_any is_line_feed text ≡ false = any_weaker is_gap is_line_feed (λ x gap. (or_parts (is_blank x) (is_line_feed x) gap).1) text none in
    let trims : IsTrimmed is_blank text = record {
      first = λ some. at_none is_blank text 0 blank some;
      last = λ some. at_none is_blank text (length text - 1) blank (omega arith);
    } in
    and_from _ _ (le-leb _ _ short) (and_from _ _ ((bytes_eq-Decides (trimmed text) text).1 (IsTrimmed-same is_blank text trims)) (ap not one))

pub is_gap-digits : (ds : List ℕ) → list_all is_ascii_digit ds ≡ true → list_any is_gap ds ≡ false
is_gap-digits [] digits = refl
is_gap-digits (d ∷ ds) digits =
    let parts = and_parts (is_ascii_digit d) (list_all is_ascii_digit ds) digits in
    or_from _ _ (is_gap-digit d parts.0) (is_gap-digits ds parts.1)

-- a sign is no gap
pub is_gap-signed : (word : List ℕ) → list_any is_gap (without_leading_sign word) ≡ false → list_any is_gap word ≡ false
is_gap-signed [] none = refl
is_gap-signed (x ∷ xs) none = elim (cases_Bool (eqb x 45)) [
  | inl minus ↦ or_from _ _ (ap is_gap (eqb-true x 45 minus)) (rw minus at none)
  | inr no_minus ↦ elim (cases_Bool (eqb x 43)) [
    | inl plus ↦ or_from _ _ (ap is_gap (eqb-true x 43 plus)) (rw (no_minus, plus) at none)
    | inr no_plus ↦ rw (no_minus, no_plus) at none
  ]
]

-- a whole number has no gap
pub is_gap-number : (token : List ℕ) (h : ℤ) → whole_of token ≡ Is h → list_any is_gap token ≡ false
is_gap-number token h number = elim (cases_Bool (is_numeral (without_leading_sign token))) [
  | inl numeral ↦ is_gap-signed token (is_gap-digits (without_leading_sign token) (and_parts _ _ numeral).1)
  | inr other ↦ let wrong : Not ≡ Is h = sym (ap (λ b. whole_of_value (cond b (Some (signed_digits_value 10 token)) None)) other) ∙ number in cc
]

pub whole_of-some : (token : List ℕ) (h : ℤ) → whole_of token ≡ Is h → 0 < length token
whole_of-some [] h number = let wrong : Not ≡ Is h = number in cc
whole_of-some (x ∷ xs) h number = omega arith

-- a text without gaps before and after the first byte that passes, where such bytes are no gaps
cut_gapless : (test : ℕ → Bool) → ((x : ℕ) → test x ≡ true → is_gap x ≡ false) → (text : List ℕ) → list_any is_gap (before_first test text) ≡ false
    → list_any is_gap (after_first test text) ≡ false → list_any is_gap text ≡ false
cut_gapless test marks [] before after = refl
cut_gapless test marks (x ∷ xs) before after = elim (cases_Bool (test x)) [
  | inl passes ↦ or_from _ _ (marks x passes) (rw passes at after)
  | inr fails ↦
      let more : before_first test (x ∷ xs) ≡ x ∷ before_first test xs = take_while-cons (λ y. not (test y)) x xs ∙ rw fails refl in
      let parts = or_parts (is_gap x) (list_any is_gap (before_first test xs)) (sym (ap (list_any is_gap) more) ∙ before) in
      let place : position_or_len test (x ∷ xs) + 1 ≡ suc (position_or_len test xs + 1) = rw fails (omega arith) in
      or_from _ _ parts.0 (cut_gapless test marks xs parts.1 (sym (ap (λ n. list_any is_gap (drop n (x ∷ xs))) place) ∙ after))
]

mark_no_gap : (x : ℕ) → is_exponent_mark x ≡ true → is_gap x ≡ false
mark_no_gap x mark = grind (arith, nat_tests)

point_no_gap : (x : ℕ) → is_point x ≡ true → is_gap x ≡ false
point_no_gap x point = ap is_gap (eqb-true x 46 point)

-- nor has an exponent
exponent_gapless : (text : List ℕ) → has_exponent_form text ≡ true → list_any is_gap (after_first is_exponent_mark text) ≡ false
exponent_gapless text form = elim (cases_Bool (has_exponent text)) [
  | inl has ↦
      let right : is_exponent (after_first is_exponent_mark text) ≡ true = rw has at form in
      is_gap-signed (after_first is_exponent_mark text) (is_gap-digits (without_leading_sign (after_first is_exponent_mark text)) (and_parts _ _ right).1)
  | inr none ↦ elim (cases_lt (length (mantissa text)) (length text)) [
    | inl less ↦ let wrong : true ≡ false = sym (lt-ltb (length (mantissa text)) (length text) less) ∙ none in cc
    | inr all ↦ ap (list_any is_gap) (drop_all (position_or_len is_exponent_mark text + 1) text (omega (arith, all, length-take (position_or_len is_exponent_mark text) text)))
  ]
]

-- nor has a decimal
pub is_gap-decimal : (word : List ℕ) → is_decimal word ≡ true → list_any is_gap word ≡ false
is_gap-decimal word right =
    let text : List ℕ = without_leading_sign word in
    let unsigned : is_unsigned_decimal text ≡ true = (and_parts (leb (length word) 64) (is_unsigned_decimal text) right).1 in
    let last = and_parts _ (list_all is_ascii_digit (fraction_digits text)) unsigned in
    let third = and_parts _ (list_all is_ascii_digit (whole_digits text)) last.0 in
    let first = and_parts (has_exponent_form text) _ third.0 in
    is_gap-signed word (cut_gapless is_exponent_mark mark_no_gap text
    (cut_gapless is_point point_no_gap (mantissa text) (is_gap-digits (whole_digits text) third.1) (is_gap-digits (fraction_digits text) last.1))
    (exponent_gapless text first.0))

-- the word of a decimal has the form of one
pub is_decimal-form : (word : List ℕ) (d : Decimal) → decimal_of word ≡ Some d → is_decimal word ≡ true
unfolding decimal_of
is_decimal-form word d is = elim (cases_Bool (is_decimal word)) [
  | inl right ↦ right
  | inr wrong ↦ let none : None ≡ Some d = rw wrong at is in cc
]

-- and that of a value
pub is_header_value-decimal : (word : List ℕ) (d : Decimal) → decimal_of word ≡ Some d → is_header_value word ≡ true
is_header_value-decimal word d is =
    let right = is_decimal-form word d is in
    let short = leb-true (length word) 64 (and_parts (leb (length word) 64) (is_unsigned_decimal (without_leading_sign word)) right).0 in
    is_header_value-gapless word (omega arith) (is_gap-decimal word right)

-- a token has no gap
pub token_of-gapless : (text : List ℕ) → list_any is_gap (token_of text) ≡ false
unfolding token_of
token_of-gapless text = before_first-none is_gap (without_start is_gap text)
