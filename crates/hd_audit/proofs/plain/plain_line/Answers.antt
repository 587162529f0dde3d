use Rattle.hd_audit.proofs.PlainLines.{BeginsWithLine-plain}
use Rattle.hd_audit.proofs.plain.plain_line.Goals as goal

pub returns : goal.returns
returns c =
    BeginsWithLine-plain c.args.text.now c.in_ok-rest-3.rest.now c.in_ok-index.rest.now c.in_ok-rest.rest.now c.in_ok-parent.rest.now c.in_ok-rest-2.rest.now c.in_ok-cut.rest.now
    c.in_ok-index.index c.in_ok-parent.parent c.in_ok-cut.cut
    c.in_ok-index.ensures c.in_ok-rest.ensures c.in_ok-parent.ensures c.in_ok-rest-2.ensures c.in_ok-cut.ensures c.in_ok-rest-3.ensures
