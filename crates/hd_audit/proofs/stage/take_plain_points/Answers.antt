use Rattle.std.proofs.Common.{◌≢◌, ◌∙◌, arith}
use Rattle.hd_audit.proofs.Stages.{BeginsWithLine-shorter, points_on-plain}
use Rattle.hd_audit.proofs.stage.take_plain_points.Goals as goal

pub points-preserved : goal.points-preserved
points-preserved c =
    let head = c.args.points.head in
    let begins = c.in-Some.ensures in
    let some : c.points.left ≢ 0 = λ none. omega (arith, none, c.points-test.true) in
    let shorter = BeginsWithLine-shorter c.points.rest.now c.in-Some.behind.now c.in-Some.line begins in
    let fewer = c.points.invariant.fewer in
    let counted = c.points.invariant.counted in
    record {
      same = λ more. rw c.in_ok-push.ensures.ok (c.points.invariant.same more ∙ points_on-plain head c.points.lines c.points.left c.points.number c.points.rest.now
          c.in-Some.behind.now c.in-Some.line some begins more);
      fewer = omega (arith, fewer, shorter);
      counted = omega (arith, counted, shorter);
    }
