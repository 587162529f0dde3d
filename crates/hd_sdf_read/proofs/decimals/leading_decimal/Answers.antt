use Rattle.std.proofs.Common.{refl}
use Rattle.hd_sdf_read.proofs.DecimalFronts.{TakesDecimal-taken}
use Rattle.hd_sdf_read.proofs.decimals.leading_decimal.Goals as goal

pub returns : goal.returns
returns c =
    TakesDecimal-taken c.args.text.now c.unsigned_part.result.now c.in_ok-units.rest.now c.in_ok-units.units c.in_ok-units.places c.is_negative.result c.unsigned_part.ensures c.in_ok-units.ensures
    (c.if-not-ends_token.ensures refl) c.is_negative.ensures c.if-units-gt-MOST_STEPS.false
