-- Residues of numbers of steps.
use Rattle.std.proofs.Common.{◌≡◌, ◌≤◌, ◌+◌, ℕ, zero, suc, List, Option, Some, None, inl, inr, ap, ◌∙◌, refl, sym, arith}
use Rattle.std.proofs.lemmas.Bool.{cases_lt}
use Rattle.hd_reach.specs.Marks.{mark_in, marked, marking}
use Rattle.hd_cert.specs.declared.residue.Residue.{Residue}
use Rattle.hd_cert.specs.declared.residue.Residue.TheVariants.{Unreached, Zero, One, Two}
use Rattle.hd_cert.specs.Residues.{residue_after, residue_of_steps, residue_of}

-- three steps more leave a residue as it is
thrice : (r : Residue) → residue_after (residue_after (residue_after r)) ≡ r
thrice Unreached = refl
thrice Zero = refl
thrice One = refl
thrice Two = refl

-- so those with the same residue of one step more are the same
pub residue_after-same : (r s : Residue) → residue_after r ≡ residue_after s → r ≡ s
residue_after-same r s e = sym (thrice r) ∙ ap (λ t. residue_after (residue_after t)) e ∙ thrice s

-- what has steps is reached
pub residue_of_steps-reached : (n : ℕ) → residue_of_steps n ≡ Unreached → ⊥
residue_of_steps-reached zero e = cc
residue_of_steps-reached (suc n) e = residue_of_steps-reached n (residue_after-same (residue_of_steps n) Unreached e)

-- what is reached has steps
pub residue_of-noted : (o : Option ℕ) → (residue_of o ≡ Unreached → ⊥) → (n : ℕ) × (o ≡ Some n)
residue_of-noted None h = absurd (h refl)
residue_of-noted (Some n) h = (n, refl)

-- the mark of some steps is their residue
marks-residues : (before : List Residue) (n : ℕ) → mark_in (marking Unreached residue_after Zero before) n ≡ residue_of_steps n
marks-residues before zero = refl
marks-residues before (suc n) = ap residue_after (marks-residues before n)

-- where nothing was reached, what is marked are the residues
pub marked-residues : (before : List Residue) (r : Residue) (o : Option ℕ) → r ≡ Unreached → marked (marking Unreached residue_after Zero before) r o ≡ residue_of o
marked-residues before r None e = e
marked-residues before r (Some n) e = marks-residues before n

pub residue_of_steps-more : (n : ℕ) → residue_of_steps (n + 1) ≡ residue_after (residue_of_steps n)
residue_of_steps-more n = let e : n + 1 ≡ suc n = omega arith in ap residue_of_steps e

-- one step more, or two, have another residue
other_after : (r : Residue) → residue_after r ≡ r → r ≡ Unreached
other_after Unreached e = refl
other_after Zero e = cc
other_after One e = cc
other_after Two e = cc

other_after_two : (r : Residue) → residue_after (residue_after r) ≡ r → r ≡ Unreached
other_after_two Unreached e = refl
other_after_two Zero e = cc
other_after_two One e = cc
other_after_two Two e = cc

-- of three numbers of steps in a row each has a residue of its own
pub residue_of_steps-same : (k n : ℕ) → n ≤ k → k ≤ n + 2 → residue_of_steps k ≡ residue_of_steps n → k ≡ n
residue_of_steps-same k n low high e = elim (cases_lt n k) [
  | inl more ↦ elim (cases_lt (n + 1) k) [
    | inl two ↦
        let is : k ≡ n + 1 + 1 = omega (arith, two, high) in
        absurd (residue_of_steps-reached n (other_after_two (residue_of_steps n) (ap residue_after (sym (residue_of_steps-more n)) ∙ sym (residue_of_steps-more (n + 1))
        ∙ ap residue_of_steps (sym is) ∙ e)))
    | inr one ↦
        let is : k ≡ n + 1 = omega (arith, more, one) in
        absurd (residue_of_steps-reached n (other_after (residue_of_steps n) (sym (residue_of_steps-more n) ∙ ap residue_of_steps (sym is) ∙ e)))
  ]
  | inr same ↦ omega (arith, low, same)
]
