-- The products in a sum of small fractions.
use Rattle.std.proofs.Common.{◌<◌, ◌*◌, ◌^◌, unsigned_abs, mul-le-mul, arith}
use Rattle.hd_num.specs.declared.frac.Frac.{Frac}
use Rattle.hd_survey.specs.Sums.{IsSmall}

-- of a numerator and a denominator
pub numerator_by_denominator : (f g : Frac) → IsSmall f → IsSmall g → unsigned_abs f.num * g.den < 2 ^ 126
numerator_by_denominator f g small small' = let product = mul-le-mul small.num small'.den in omega (arith, product)

-- of the denominators
pub denominator_by_denominator : (f g : Frac) → IsSmall f → IsSmall g → f.den * g.den < 2 ^ 127
denominator_by_denominator f g small small' = let product = mul-le-mul small.den small'.den in omega (arith, product)
