use Rattle.std.proofs.Common.{sym, ◌∙◌}
use Rattle.hd_sdf_read.proofs.WholeCuts.{length-filled}
use Rattle.hd_sdf_read.proofs.DecimalCuts.{IsNextDatum-cut}
use Rattle.hd_sdf_read.proofs.DecimalTokens.{IsNextDatum-given}
use Rattle.hd_sdf_read.proofs.decimal_data.cut_decimal.Goals as goal

pub returns-in-Some : goal.returns-in-Some
returns-in-Some c = λ more.
    let given = IsNextDatum-given c.args.read c.args.text.now c.skip_gaps.result.now c.in-Some.after.now c.in-Some.datum c.skip_gaps.ensures c.in-Some.ensures in
    IsNextDatum-cut c.args.read c.args.text.now c.in-Some.after.now given.1 (length-filled c.in-Some.after.now (sym c.is_empty.ensures ∙ c.if-not-is_empty.true)) more c.in-Some.datum given.0
