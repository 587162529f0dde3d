use Rattle.std.proofs.Common.{◌++◌, ◌∷◌, [], ◌/◌, ◌%◌, ◌∙◌, ap, take}
use Rattle.std.specs.Prelude.{decimal}
use Rattle.std.proofs.lemmas.Result.{on_err_weaker}
use Rattle.hd_num.specs.Percent.{fraction_text}
use Rattle.hd_num.proofs.Percents.{OnErr-told}
use Rattle.hd_num.proofs.percent.push_percent.Goals as goal
use Rattle.hd_num.proofs.AppendsPrefix.{prefix_first, prefix_then}

pub returns-in_err-push_unsigned-clause-err : goal.returns-in_err-push_unsigned-clause-err
returns-in_err-push_unsigned-clause-err c = OnErr-told c.from_residual.result
    (prefix_first c.args.out.now c.push_unsigned.new.out (decimal (c.args.p.thousandths / 1000)) (fraction_text (c.args.p.thousandths % 1000) ++ 37 ∷ [])
    (let e = c.in_err-push_unsigned.ensures.err in (e.0, e.1 ∙ ap (λ n. c.args.out.now ++ take e.0 (decimal n)) c.from.ensures)))

pub returns-clause-err : goal.returns-clause-err
returns-clause-err c = on_err_weaker c.push_fraction.result
    (prefix_then c.args.out.now c.push_unsigned.new.out c.push_fraction.new.out (decimal (c.args.p.thousandths / 1000)) (fraction_text (c.args.p.thousandths % 1000) ++ 37 ∷ [])
    (c.in_ok-push_unsigned.ensures.ok ∙ ap (λ n. c.args.out.now ++ decimal n) c.from.ensures)) c.push_fraction.ensures.err
