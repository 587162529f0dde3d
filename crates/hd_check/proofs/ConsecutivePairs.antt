-- Pairs of consecutive elements that are gone through one after another.
use Rattle.std.proofs.Common.{◌≡◌, ◌<◌, ◌≤◌, ◌+◌, ◌-◌, ℕ, inl, inr, ap, subst, arith}
use Rattle.std.proofs.lemmas.Bool.{cases_lt}

module _ {A : Type 0} (R : A → A → Type 0) (at : ℕ → A) (k : ℕ) (some : 1 ≤ k) (before : (i : ℕ) → i + 1 < k → R (at i) (at (i + 1))) where
  -- one more pair is so related
  pub consecutive_pairs-more : R (at (k - 1)) (at k) → (i : ℕ) → i + 1 < k + 1 → R (at i) (at (i + 1))
  consecutive_pairs-more here i below = elim (cases_lt (i + 1) k) [
    | inl less ↦ before i less
    | inr past ↦
        let first : k - 1 ≡ i = omega (arith, some, past, below) in
        let second : k ≡ i + 1 = omega (arith, past, below) in
        subst (λ (j : ℕ). R (at i) (at j)) second (subst (λ (j : ℕ). R (at j) (at k)) first here)
  ]

  -- the first pair that is not so related
  pub consecutive_pairs-stop : (n : ℕ) → k < n → (R (at (k - 1)) (at k) → ⊥)
      → (j : ℕ) × (j < n - 1) × ((i : ℕ) → i < j → R (at i) (at (i + 1))) × (R (at j) (at (j + 1)) → ⊥) × (at k ≡ at (j + 1))
  consecutive_pairs-stop n inside not =
      let second : k ≡ k - 1 + 1 = omega (arith, some) in
      (k - 1, omega (arith, some, inside), λ i less. before i (omega (arith, less)), λ r. not (subst (λ (j : ℕ). R (at (k - 1)) (at j)) (omega (arith, some)) r), ap at second)
