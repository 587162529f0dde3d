use Rattle.std.proofs.Common.{◌^◌, ◌/◌, ◌%◌, ◌∷◌, ◌∙◌, ap, subst}
use Rattle.std.specs.Prelude.{decimal}
use Rattle.std.proofs.lemmas.Result.{on_err_weaker}
use Rattle.hd_num.specs.Steps.{padded}
use Rattle.hd_num.specs.Text.{AppendsPrefix}
use Rattle.hd_num.proofs.Percents.{OnErr-told}
use Rattle.hd_num.proofs.StepsText.{magnitude_text-with_places, ten_power-rest, ten_power-some}
use Rattle.hd_num.proofs.steps.push_magnitude.Goals as goal
use Rattle.hd_num.proofs.AppendsPrefix.{prefix_first, prefix_then}

pub nonzero_div-magnitude : goal.nonzero_div-magnitude
nonzero_div-magnitude c = ten_power-some c.pow-unit.result c.from.result c.pow-unit.ensures

pub nonzero_rem-magnitude : goal.nonzero_rem-magnitude
nonzero_rem-magnitude c = ten_power-some c.pow-unit.result c.from.result c.pow-unit.ensures

pub push_places-requires-clause-fits : goal.push_places-requires-clause-fits
push_places-requires-clause-fits c = ten_power-rest c.args.magnitude c.pow-unit.result c.args.places (c.pow-unit.ensures ∙ ap (λ n. 10 ^ n) c.from.ensures)

pub returns-in_err-push_unsigned-clause-err : goal.returns-in_err-push_unsigned-clause-err
returns-in_err-push_unsigned-clause-err c =
    let unit = c.pow-unit.result in
    let whole = magnitude_text-with_places c.args.magnitude unit c.args.places (c.pow-unit.ensures ∙ ap (λ n. 10 ^ n) c.from.ensures) c.requires.some in
    OnErr-told c.from_residual.result
    (subst (AppendsPrefix c.args.out.now c.push_unsigned.new.out) whole
    (prefix_first c.args.out.now c.push_unsigned.new.out (decimal (c.args.magnitude / unit)) (46 ∷ padded c.args.places (c.args.magnitude % unit)) c.in_err-push_unsigned.ensures.err))

pub returns-clause-err : goal.returns-clause-err
returns-clause-err c =
    let unit = c.pow-unit.result in
    let whole = magnitude_text-with_places c.args.magnitude unit c.args.places (c.pow-unit.ensures ∙ ap (λ n. 10 ^ n) c.from.ensures) c.requires.some in
    on_err_weaker c.push_places.result
    (λ h. subst (AppendsPrefix c.args.out.now c.push_places.new.out) whole
    (prefix_then c.args.out.now c.push_unsigned.new.out c.push_places.new.out (decimal (c.args.magnitude / unit))
    (46 ∷ padded c.args.places (c.args.magnitude % unit)) c.in_ok-push_unsigned.ensures.ok h))
    c.push_places.ensures.err
