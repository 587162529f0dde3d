use Rattle.std.proofs.Common.{◌++◌, ◌∷◌, ap, ◌∙◌, ◌≡◌, decimal, subst, rules}
use Rattle.std.specs.Fmt.{signed_decimal}
use Rattle.std.proofs.lemmas.Result.{on_err_weaker}
use Rattle.hd_num.specs.Text.{AppendsPrefix}
use Rattle.hd_num.proofs.Percents.{OnErr-told}
use Rattle.hd_num.proofs.frac.push_frac.Goals as goal
use Rattle.hd_num.proofs.AppendsPrefix.{prefix_first, prefix_then}

pub returns-in_err-push_text-clause-err : goal.returns-in_err-push_text-clause-err
returns-in_err-push_text-clause-err c =
    let text : c.as_bytes.result.now ≡ signed_decimal c.args.f.num = search rules in
    OnErr-told c.from_residual.result
    (prefix_first c.args.out.now c.push_text.new.out (signed_decimal c.args.f.num) (47 ∷ decimal c.args.f.den)
    (subst (AppendsPrefix c.args.out.now c.push_text.new.out) text c.in_err-push_text.ensures.err))

pub returns-clause-err : goal.returns-clause-err
returns-clause-err c =
    let text : c.as_bytes.result.now ≡ signed_decimal c.args.f.num = search rules in
    on_err_weaker c.push_over.result
    (λ h. prefix_then c.args.out.now c.push_text.new.out c.push_over.new.out (signed_decimal c.args.f.num) (47 ∷ decimal c.args.f.den)
    (c.in_ok-push_text.ensures.ok ∙ ap (λ t. c.args.out.now ++ t) text) h)
    c.push_over.ensures.err
