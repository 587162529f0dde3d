use Rattle.std.proofs.Common.{inr, sym}
use Rattle.hd_num.specs.Lines.{words_of}
use Rattle.hd_audit.proofs.Stages.{points_on-read, points_on-unread}
use Rattle.hd_audit.proofs.stage.take_point.Goals as goal

pub returns-in_default : goal.returns-in_default
returns-in_default c = inr (λ more. points_on-unread c.args.points.head c.args.points.lines c.args.points.left c.args.number c.if-left-eq0.false (words_of c.args.line.now) more
    (sym c.in_default.ensures))

pub returns : goal.returns
returns c = λ more. rw c.in_ok-push.ensures.ok (points_on-read c.args.points.head c.args.points.lines c.args.points.left c.args.number c.if-left-eq0.false
    (words_of c.args.line.now) more c.in-Some.point (sym c.in-Some.ensures))
