use Rattle.std.proofs.Common.{◌++◌, ◌∙◌, ap, subst, ℕ}
use Rattle.std.specs.Prelude.{decimal}
use Rattle.std.proofs.lemmas.Result.{err_from_is_err_and}
use Rattle.hd_num.specs.Text.{AppendsPrefix}
use Rattle.hd_check.proofs.writing.push_count.Goals as goal

pub returns-in_err-push_unsigned : goal.returns-in_err-push_unsigned
returns-in_err-push_unsigned c = let p = err_from_is_err_and c.from_residual.result c.from_residual.ensures.1 in
    rw p.1 (subst (λ (n : ℕ). AppendsPrefix c.args.out.now c.push_unsigned.new.out (decimal n)) c.from.ensures c.in_err-push_unsigned.ensures.err)

pub returns : goal.returns
returns c = c.in_ok-push_unsigned.ensures.ok ∙ ap (λ (n : ℕ). c.args.out.now ++ decimal n) c.from.ensures
