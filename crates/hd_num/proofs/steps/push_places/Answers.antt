use Rattle.std.proofs.Common.{◌≡◌, ◌++◌, ℕ, List, ◌∙◌, arith, subst, ap, append_assoc, length}
use Rattle.std.specs.Prelude.{decimal}
use Rattle.std.proofs.lemmas.Fmt.{length-decimal-le}
use Rattle.std.proofs.lemmas.Result.{on_err_weaker, on_ok_weaker}
use Rattle.hd_num.specs.Text.{AppendsPrefix}
use Rattle.hd_num.proofs.Percents.{OnErr-told}
use Rattle.hd_num.proofs.StepsText.{padded-point}
use Rattle.hd_num.proofs.steps.push_places.Goals as goal
use Rattle.hd_num.proofs.AppendsPrefix.{prefix_first, prefix_then}

pub overflow_sub-zeros : goal.overflow_sub-zeros
overflow_sub-zeros c =
    let text : c.as_bytes-digits.result.now ≡ decimal c.args.number = c.as_bytes-digits.ensures.value ∙ c.format.ensures.text in
    let short = length-decimal-le c.args.places c.args.number c.requires.some c.requires.fits c.ranges.number.fits in
    omega (arith, short, ap length text, c.from.ensures)

pub returns-in_err-push_text-clause-err : goal.returns-in_err-push_text-clause-err
returns-in_err-push_text-clause-err c =
    let whole = padded-point c.from.result c.args.places c.args.number c.as_bytes-digits.result.now c.from.ensures (c.as_bytes-digits.ensures.value ∙ c.format.ensures.text) c.requires.few in
    OnErr-told c.from_residual.result (subst (AppendsPrefix c.args.out.now c.push_text.new.out) whole
    (prefix_first c.args.out.now c.push_text.new.out _ c.as_bytes-digits.result.now c.in_err-push_text.ensures.err))

pub returns-clause-ok : goal.returns-clause-ok
returns-clause-ok c =
    let whole = padded-point c.from.result c.args.places c.args.number c.as_bytes-digits.result.now c.from.ensures (c.as_bytes-digits.ensures.value ∙ c.format.ensures.text) c.requires.few in
    let before = c.in_ok-push_text.ensures.ok in
    on_ok_weaker c.push_text-2.result (λ after. after ∙ ap (λ (t : List ℕ). t ++ c.as_bytes-digits.result.now) before ∙ append_assoc c.args.out.now _ c.as_bytes-digits.result.now
    ∙ ap (λ (t : List ℕ). c.args.out.now ++ t) whole) c.push_text-2.ensures.ok

pub returns-clause-err : goal.returns-clause-err
returns-clause-err c =
    let whole = padded-point c.from.result c.args.places c.args.number c.as_bytes-digits.result.now c.from.ensures (c.as_bytes-digits.ensures.value ∙ c.format.ensures.text) c.requires.few in
    on_err_weaker c.push_text-2.result
    (λ h. subst (AppendsPrefix c.args.out.now c.push_text-2.new.out) whole (prefix_then c.args.out.now c.push_text.new.out c.push_text-2.new.out _ c.as_bytes-digits.result.now
    c.in_ok-push_text.ensures.ok h))
    c.push_text-2.ensures.err
