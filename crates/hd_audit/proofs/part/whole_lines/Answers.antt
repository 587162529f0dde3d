use Rattle.std.proofs.Common.{[], eqb-true}
use Rattle.hd_audit.proofs.EndsLine.{IsCutAfterLine-found}
use Rattle.hd_audit.proofs.part.whole_lines.Goals as goal

pub returns-in-Some-clause-ends : goal.returns-in-Some-clause-ends
returns-in-Some-clause-ends c =
    (IsCutAfterLine-found c.args.text.now _ _ c.in-Some.place c.in-Some.ensures.0.high (eqb-true _ 10 c.in-Some.ensures.1) c.split_at.ensures.front c.split_at.ensures.back).ends []
