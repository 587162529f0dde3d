use Rattle.std.proofs.Common.{arith}
use Rattle.hd_sdf_read.proofs.WholeFronts.{is_gap-begins, TakesCell-plain}
use Rattle.hd_sdf_read.proofs.datum.leading_over.Goals as goal

pub returns-clause-cell : goal.returns-clause-cell
returns-clause-cell c =
    TakesCell-plain c.args.below c.args.greatest c.args.text.now c.in_ok-number.rest.now c.in_ok-number.number c.in_ok-number.ensures (omega (arith, c.if-number-from.false))

pub returns-clause-left : goal.returns-clause-left
returns-clause-left c = is_gap-begins c.in_ok-number.rest.now c.in_ok-number.ensures.begins
