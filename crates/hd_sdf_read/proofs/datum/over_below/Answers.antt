use Rattle.std.proofs.Common.{arith}
use Rattle.std.proofs.lemmas.List.{take_rest}
use Rattle.hd_sdf_read.proofs.WholeFronts.{is_gap-begins, TakesCell-minus}
use Rattle.hd_sdf_read.proofs.datum.over_below.Goals as goal

pub returns-clause-cell : goal.returns-clause-cell
returns-clause-cell c greatest =
    TakesCell-minus c.args.below greatest c.args.text.now c.in_ok-number.rest.now c.in_ok-number.number (omega (arith, c.requires.long)) c.requires.minus
    (rw (take_rest c.args.text.now 1) at c.in_ok-number.ensures)
    (omega (arith, c.if-number-from.false))

pub returns-clause-left : goal.returns-clause-left
returns-clause-left c = is_gap-begins c.in_ok-number.rest.now c.in_ok-number.ensures.begins
