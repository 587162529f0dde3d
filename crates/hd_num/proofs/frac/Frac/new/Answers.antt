use Rattle.std.proofs.Common.{◌/◌, ◌≡◌, ◌∙◌, to_z, of_z, unsigned_abs, pos, int_lt, FitsSigned, rules, sym, subst, ap, ap₂}
use mir.Syntax.{w128}
use Rattle.std.specs.Int.{IsGcd}
use Rattle.std.proofs.lemmas.Int.{to_z-of_z}
use Rattle.hd_num.specs.Frac.{IsFraction}
use Rattle.hd_num.specs.Whole.{signed_number}
use Rattle.hd_num.proofs.Fractions.{IsFraction-divided}
use Rattle.hd_num.proofs.frac.Frac.new.Goals as goal

fraction : (c : goal.After-signed) → IsFraction c.args.n c.args.d (to_z w128 (of_z w128 c.signed.result)) (c.args.d / c.common_divisor-divisor.result)
fraction c =
    let g = c.common_divisor-divisor.result in
    let kept : to_z w128 (of_z w128 c.args.n) ≡ c.args.n = to_z-of_z w128 c.args.n c.ranges.n in
    let size : c.unsigned_abs-size.result ≡ unsigned_abs c.args.n = c.unsigned_abs-size.ensures.value ∙ ap unsigned_abs kept in
    let divisor : IsGcd (unsigned_abs c.args.n) c.args.d g = subst (λ m. IsGcd m c.args.d g) size c.common_divisor-divisor.ensures in
    let fits : FitsSigned w128 c.signed.result = search rules in
    let num : to_z w128 (of_z w128 c.signed.result) ≡ signed_number (int_lt c.args.n (pos 0)) (unsigned_abs c.args.n / g) =
    to_z-of_z w128 _ fits ∙ c.signed.ensures ∙ ap₂ (λ z m. signed_number (int_lt z (pos 0)) (m / g)) kept size in
    subst (λ z. IsFraction c.args.n c.args.d z (c.args.d / g)) (sym num) (IsFraction-divided c.args.n c.args.d g c.requires divisor)

pub invariant_of-result : goal.invariant_of-result
invariant_of-result c = record { reduced = (fraction c).reduced }

pub returns : goal.returns
returns c = fraction c.before
