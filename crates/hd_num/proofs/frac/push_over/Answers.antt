use Rattle.std.proofs.Common.{◌∷◌, [], decimal, rules, ◌≡◌, subst}
use Rattle.std.proofs.lemmas.Result.{on_err_weaker}
use Rattle.hd_num.specs.Text.{AppendsPrefix}
use Rattle.hd_num.proofs.frac.push_over.Goals as goal
use Rattle.hd_num.proofs.AppendsPrefix.{prefix_then}

pub returns-clause-err : goal.returns-clause-err
returns-clause-err c =
    let text : c.as_bytes.result.now ≡ decimal c.args.den = search rules in
    on_err_weaker c.push_text-2.result
    (λ h. prefix_then c.args.out.now c.push_text.new.out c.push_text-2.new.out (47 ∷ []) (decimal c.args.den) c.in_ok-push_text.ensures.ok
    (subst (AppendsPrefix c.push_text.new.out c.push_text-2.new.out) text h))
    c.push_text-2.ensures.err
