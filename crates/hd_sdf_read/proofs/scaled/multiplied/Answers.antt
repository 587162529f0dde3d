use Rattle.std.proofs.Common.{◌*◌, ◌^◌, ◌<◌, arith, ap, subst, sym, ◌∙◌}
use Rattle.hd_sdf_read.proofs.Scaling.{ten_power-some, ten_power-product_in, ten_power-product_out, ten_power-zero}
use Rattle.hd_sdf_read.specs.Decimals.{most_steps}
use Rattle.hd_sdf_read.proofs.scaled.multiplied.Goals as goal

pub nonzero_div-factor : goal.nonzero_div-factor
nonzero_div-factor c = ten_power-some c.args.power c.ten_to-factor.result c.ten_to-factor.ensures

pub overflow_mul-result : goal.overflow_mul-result
overflow_mul-result c =
    let fits = ten_power-product_in c.args.units c.args.power c.ten_to-factor.result c.ten_to-factor.ensures c.if-units-factor.true in
    record { fits = omega (arith, fits) }

pub returns-then-units-factor : goal.returns-then-units-factor
returns-then-units-factor c =
    (ap (λ n. c.args.units * n) c.ten_to-factor.ensures, ten_power-product_in c.args.units c.args.power c.ten_to-factor.result c.ten_to-factor.ensures c.if-units-factor.true)

pub returns-else-units-factor : goal.returns-else-units-factor
returns-else-units-factor c = ten_power-product_out c.args.units c.args.power c.ten_to-factor.result c.ten_to-factor.ensures c.if-units-factor.false

pub returns-then-units-le-MOST_STEPS : goal.returns-then-units-le-MOST_STEPS
returns-then-units-le-MOST_STEPS c = (sym (ap (λ p. c.args.units * 10 ^ p) c.if-power-eq0.true ∙ ten_power-zero c.args.units), c.if-units-le-MOST_STEPS.true)

pub returns-else-units-le-MOST_STEPS : goal.returns-else-units-le-MOST_STEPS
returns-else-units-le-MOST_STEPS c =
    subst (λ n. most_steps < n) (sym (ap (λ p. c.args.units * 10 ^ p) c.if-power-eq0.true ∙ ten_power-zero c.args.units)) c.if-units-le-MOST_STEPS.false
