use Rattle.std.proofs.Common.{eqb-true}
use Rattle.hd_audit.proofs.EndsLine.{IsCutAfterLine-found}
use Rattle.hd_audit.proofs.part.first_line.Goals as goal

pub returns : goal.returns
returns c =
    IsCutAfterLine-found c.args.text.now _ _ c.in_ok-place.place c.in_ok-place.ensures.0.high (eqb-true _ 10 c.in_ok-place.ensures.1)
    c.split_at.ensures.front c.split_at.ensures.back
