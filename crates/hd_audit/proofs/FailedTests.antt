-- What a failed test says.
use Rattle.std.proofs.Common.{◌≡◌, ◌<◌, ◌+◌, ℕ, Bool, true, false, not, eqb, Option, Some, None, inl, inr, refl, ap, eq-eqb, sym, subst, ◌∙◌, arith}
use Rattle.std.specs.Prelude.{◌↔◌, IsTrue}
use Rattle.std.specs.Option.{option_eq}
use Rattle.std.proofs.lemmas.Bool.{cases_lt, eqb-true, false≢true}
use Rattle.std.proofs.lemmas.Option.{none-some, same_Some}

-- it does not hold
pub test-fails : {P : Type 0} (b : Bool) → b ≡ false → IsTrue b ↔ P → P → ⊥
test-fails b failed is p = false≢true (sym failed ∙ is.1 p)

-- it holds
pub test-holds : {P : Type 0} (b : Bool) → b ≡ true → IsTrue b ↔ P → P
test-holds b passed is = is.0 passed

-- what holds of each below k and of k holds of each below the next
pub below-more : (P : ℕ → Type 0) (k : ℕ) → ((i : ℕ) → i < k → P i) → P k → (i : ℕ) → i < k + 1 → P i
below-more P k before here i below = elim (cases_lt i k) [
  | inl old ↦ before i old
  | inr last ↦ (let same : k ≡ i = omega (arith, below, last) in subst P same here)
]

-- its negation
pub test-negated : {P : Type 0} (b : Bool) → IsTrue b ↔ P → IsTrue (not b) ↔ (P → ⊥)
test-negated true is = (λ e. absurd (false≢true e), λ none. absurd (none (is.0 refl)))
test-negated false is = (λ e p. false≢true (is.1 p), λ none. refl)

-- the one is, and the other
pub test-turned : {P Q : Type 0} (b : Bool) → IsTrue b ↔ P → (P → Q) → (Q → P) → IsTrue b ↔ Q
test-turned b is there back = (λ t. there (is.0 t), λ q. is.1 (back q))

-- whether an option is this number
pub option_eq-some : (o : Option ℕ) (c : ℕ) → (option_eq eqb o (Some c) ≡ true) ↔ (o ≡ Some c)
option_eq-some (Some a) c = (λ e. ap Some (eqb-true a c e), λ e. eq-eqb a c (same_Some a c e))
option_eq-some None c = (λ e. absurd (false≢true e), λ e. absurd (none-some c e))
