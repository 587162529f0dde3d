-- Fractions in lowest terms.
use Rattle.std.specs.Prelude.{◌≡◌, ◌<◌, ◌+ℤ◌, ◌*ℤ◌, ◌++◌, ◌∷◌, ℕ, ℤ, pos, List, decimal, unsigned_abs}
use Rattle.std.specs.Fmt.{signed_decimal}
use Rattle.std.specs.Int.{◌∣◌}

-- the denominator is not 0, and no number but 1 divides it and the numerator
pub record IsReduced (num : ℤ) (den : ℕ) : Type 0 where
  pub positive : 0 < den
  pub coprime : (k : ℕ) → k ∣ unsigned_abs num → k ∣ den → k ≡ 1

-- num over den is the reduced fraction of n over d: it is reduced and has the same value
pub record IsFraction (n : ℤ) (d : ℕ) (num : ℤ) (den : ℕ) : Type 0 where
  pub reduced : IsReduced num den
  pub value : n *ℤ pos den ≡ num *ℤ pos d

-- the numerator of the sum of two fractions over the product of their denominators
abbrev pub sum_over_product : ℤ → ℕ → ℤ → ℕ → ℤ
sum_over_product a b c d = a *ℤ pos d +ℤ c *ℤ pos b

-- the text of a fraction: the numerator, `/` and the denominator
abbrev pub frac_text : ℤ → ℕ → List ℕ
frac_text num den = signed_decimal num ++ (47 ∷ decimal den)
