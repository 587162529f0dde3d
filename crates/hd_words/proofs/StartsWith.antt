-- Words that start with a text.
use Rattle.std.proofs.Common.{◌≡◌, ◌≢◌, ◌∙◌, ◌+◌, ℕ, Bool, true, false, List, ◌++◌, length, drop, Option, Some, None, MatchOption, nat_eq, Bor, refl, ap, arith, if◌then◌else◌}
use Rattle.std.specs.List.{starts_with}
use Rattle.std.specs.Option.{option_copied}
use Rattle.std.specs.Prelude.{Decides}
use Rattle.std.specs.Str.{IsCharBoundary}
use Rattle.std.proofs.lemmas.Bool.Decides.{nat_tests}
use Rattle.std.proofs.lemmas.Slice.Eq.{starts_is}

pub nat_eq-decides : (a b : ℕ) → Decides (nat_eq a b) (a ≡ b)
nat_eq-decides a b = (λ t. grind (arith, nat_tests), λ e. grind (arith, nat_tests))

-- a word without the text that it begins with
pub starts_with-strips : (word front : List ℕ) (r : Option (Bor (List ℕ)))
    → MatchOption r ((rest : List ℕ) → drop 0 word ≢ front ++ rest) (λ x. (n : ℕ) × ((n ≡ length front) × (word ≡ front ++ drop n word) × IsCharBoundary word (length front))
    × (x.now ≡ drop n word) × (length x.now + n ≡ length word))
    → option_copied r ≡ (if starts_with nat_eq word front then Some (drop (length front) word) else None)
starts_with-strips word front None lacks = none_if (starts_with nat_eq word front) (drop (length front) word)
    (λ holds. lacks (drop (length front) word) ((starts_is nat_eq-decides word front (starts_with nat_eq word front) refl).0 holds))
  where
    none_if : (test : Bool) (value : List ℕ) → (test ≡ true → ⊥) → None ≡ (if test then Some value else None)
    none_if true value wrong = absurd (wrong refl)
    none_if false value wrong = refl
starts_with-strips word front (Some x) (n, found, is, len) =
    some_if (starts_with nat_eq word front) x.now (drop (length front) word) ((starts_is nat_eq-decides word front (starts_with nat_eq word front) refl).1 (drop n word) found.1)
    (is ∙ ap (λ k. drop k word) found.0)
  where
    some_if : (test : Bool) (y value : List ℕ) → test ≡ true → y ≡ value → Some y ≡ (if test then Some value else None)
    some_if true y value holds same = ap (λ ys. Some ys) same
    some_if false y value holds same = absurd (cc)

pub option_copied-absent : (test : Bool) (value : List ℕ) (r : Option (Bor (List ℕ))) → option_copied r ≡ (if test then Some value else None) → r ≡ None → test ≡ false
option_copied-absent true value r e is = let wrong : None ≡ Some value = rw is at e in cc
option_copied-absent false value r e is = refl
