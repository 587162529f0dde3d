use Rattle.std.proofs.Common.{ℕ, List, eqb, length, sym, ap, ◌∙◌}
use Rattle.hd_sdf_read.proofs.WholeCuts.{length-filled}
use Rattle.hd_sdf_read.proofs.DecimalCuts.{IsNextDatum-cut, data_with-cut}
use Rattle.hd_sdf_read.proofs.decimal_data.cut_token.Goals as goal

pub returns-in-Ok : goal.returns-in-Ok
returns-in-Ok c = λ more.
    IsNextDatum-cut c.args.read c.args.text.now c.in-Ok.after.now c.in-Ok.ensures.1
    (length-filled c.in-Ok.after.now (ap (λ (t : List ℕ). eqb (length t) 0) (c.in-Ok.ensures.1 ∙ sym c.next_token.ensures.rest) ∙ sym c.is_empty.ensures ∙ c.if-is_empty.false))
    more c.in-Ok.datum c.in-Ok.ensures.0

pub returns-in-Err : goal.returns-in-Err
returns-in-Err c = λ refused before read more.
    data_with-cut c.args.read c.args.text.now c.next_token.result.1.now c.next_token.ensures.rest
    (length-filled c.next_token.result.1.now (sym c.is_empty.ensures ∙ c.if-is_empty.false)) more before c.in-Err.refusal (c.in-Err.ensures refused before read)
