-- One to three digits, and the texts of percents.
use Rattle.std.proofs.Common.{◌≡◌, ℕ, suc, ◌<◌, ◌≤◌, ◌^◌, List, [], ◌∷◌, length, Bool, true, false, not, ◌&&◌, ◌==◌, ltb, Option, Some, None, Ok, Err}
use Rattle.std.proofs.Common.{if◌then◌else◌, inl, inr, subst, refl, sym, ap, ◌∙◌, arith}
use Rattle.std.specs.Prelude.{IfSome, Result, OnErr, ℤ, pos, negsuc, ◌*ℤ◌, int_lt, FitsSigned}
use mir.Syntax.{w64, w128}
use mir.Val.{to_z, of_z}
use Rattle.std.specs.Int.RustNames.{unsigned_abs}
use Rattle.std.proofs.lemmas.Int.{ints, to_z-of_z, fits_signed_mul}
use Rattle.std.specs.Char.{is_ascii_digit}
use Rattle.std.specs.Int.{is_in_range}
use Rattle.std.specs.List.{list_all}
use Rattle.std.specs.Str.Parse.{digits_value}
use Rattle.std.proofs.lemmas.Bool.{lt-ltb, cases_Bool, and_from, and_parts, and_right}
use Rattle.std.proofs.lemmas.Bool.Decides.{nat_tests}
use Rattle.hd_num.specs.Percent.{are_few_digits, few_digits_of, is_percent_less}
use Rattle.hd_num.specs.Whole.{count_of, is_numeral}
use Rattle.hd_num.proofs.Decimals.{digits_value-small}

in_range : (n : ℕ) → n < 3 → is_in_range 1 3 (suc n) ≡ true
in_range n h = grind (arith, nat_tests)

not_zero : (n : ℕ) → not (suc n == 0) ≡ true
not_zero n = grind (arith, nat_tests)

few_test : (x : ℕ) (xs : List ℕ) → length (x ∷ xs) ≤ 3 → (is_numeral (x ∷ xs) && ltb (digits_value 10 (x ∷ xs)) (2 ^ 32)) ≡ are_few_digits (x ∷ xs)
few_test x xs h =
    let some = not_zero (length xs) in
    let few = in_range (length xs) (omega arith) in
    elim (cases_Bool (list_all is_ascii_digit (x ∷ xs))) [
      | inl e ↦
          let small = digits_value-small (x ∷ xs) e h in
          let fits : ltb (digits_value 10 (x ∷ xs)) (2 ^ 32) ≡ true = lt-ltb _ _ (omega (arith, small)) in
          and_from (is_numeral (x ∷ xs)) (ltb (digits_value 10 (x ∷ xs)) (2 ^ 32)) (and_from (not (suc (length xs) == 0)) (list_all is_ascii_digit (x ∷ xs)) some e) fits ∙ sym (and_from _ _ few e)
      | inr e ↦ falls (not (suc (length xs) == 0)) (list_all is_ascii_digit (x ∷ xs)) (ltb (digits_value 10 (x ∷ xs)) (2 ^ 32)) e ∙ sym (and_right _ _ e)
    ]
  where
    falls : (a b c : Bool) → b ≡ false → ((a && b) && c) ≡ false
    falls a b c e = ap (λ v. v && c) (and_right a b e)

-- few digits are a count
pub few_digits_of-is_count : (text : List ℕ) → length text ≤ 3 → count_of text ≡ few_digits_of text
few_digits_of-is_count [] h = refl
few_digits_of-is_count (x ∷ xs) h = ap (λ b. if b then Some (digits_value 10 (x ∷ xs)) else None) (few_test x xs h)

-- few digits write a number below 1000
few_below : (text : List ℕ) → are_few_digits text ≡ true → length text ≤ 3 → digits_value 10 text < 1000
few_below text e h = digits_value-small text (and_parts _ _ e).1 h

pub few_digits_of-small : (text : List ℕ) (o : Option ℕ) → length text ≤ 3 → o ≡ few_digits_of text → IfSome o (λ n. n < 1000)
few_digits_of-small text o h e = subst (λ p. IfSome p (λ n. n < 1000)) (sym e) (elim (are_few_digits text) as (λ v. are_few_digits text ≡ v
    → IfSome (if v then Some (digits_value 10 text) else None) (λ n. n < 1000)) [
      | true ↦ λ f. few_below text f h
      | false ↦ λ f. tt
    ] refl)

pub unsigned_abs-small : (z : ℤ) → FitsSigned w64 z → unsigned_abs z ≤ 2 ^ 63
unsigned_abs-small (pos n) h = omega (arith, ints)
unsigned_abs-small (negsuc n) h = omega (arith, ints)

wide : (z : ℤ) → FitsSigned w64 z → FitsSigned w128 z
wide z h = omega (arith, ints)

-- the comparison in 128 bits is that of whole numbers
pub is_percent_less-kept : (l s : ℤ) (t : ℕ) (a b c : ℤ) → a ≡ l → b ≡ pos t → c ≡ s → FitsSigned w64 l → FitsSigned w64 s → t < 2 ^ 32 →
    int_lt (to_z w128 (of_z w128 (to_z w128 (of_z w128 a) *ℤ pos 100000))) (to_z w128 (of_z w128 (to_z w128 (of_z w128 b) *ℤ to_z w128 (of_z w128 c)))) ≡ is_percent_less l t s
is_percent_less-kept l s t a b c ea eb ec hl hs ht =
    let kl : to_z w128 (of_z w128 l) ≡ l = to_z-of_z w128 l (wide l hl) in
    let kt : to_z w128 (of_z w128 (pos t)) ≡ pos t = to_z-of_z w128 (pos t) (omega (arith, ints)) in
    let ks : to_z w128 (of_z w128 s) ≡ s = to_z-of_z w128 s (wide s hs) in
    let left : to_z w128 (of_z w128 (l *ℤ pos 100000)) ≡ l *ℤ pos 100000 = to_z-of_z w128 (l *ℤ pos 100000)
    (fits_signed_mul w128 l (pos 100000) (2 ^ 63) 100000 (unsigned_abs-small l hl) (omega arith) (omega arith)) in
    let right : to_z w128 (of_z w128 (pos t *ℤ s)) ≡ pos t *ℤ s = to_z-of_z w128 (pos t *ℤ s)
    (fits_signed_mul w128 (pos t) s (2 ^ 32) (2 ^ 63) (omega arith) (unsigned_abs-small s hs) (omega arith)) in
    rw (ea, eb, ec, kl, kt, ks, left, right) refl

-- what holds after an error
pub OnErr-told : {A B : Type 0} {P : Type 0} (r : Result A B) → P → OnErr r P
OnErr-told (Ok x) p = tt
OnErr-told (Err e) p = p
