use Rattle.std.proofs.Common.{inl, inr}
use Rattle.std.proofs.lemmas.Result.{err_from_is_err_and}
use Rattle.hd_check.specs.Reading.{point_form}
use Rattle.hd_check.proofs.ReadingSteps.{items_in-bad, AreItemsBefore-more}
use Rattle.hd_check.proofs.reading.point_lines.Goals as goal

pub returns-in_err-at : goal.returns-in_err-at
returns-in_err-at c = let p = err_from_is_err_and c.from_residual.result c.from_residual.ensures.1 in rw (p.1, p.2) (elim c.in_err-at.ensures [
  | inl memory ↦ inl memory
  | inr bad ↦ inr (items_in-bad point_form c.args.bytes.now c.args.count c.args.start c.points.points c.points.place c.points.k _ c.points-test.true c.points.invariant bad)
])

pub points-preserved : goal.points-preserved
points-preserved c = rw c.in_ok-push.ensures.ok (AreItemsBefore-more point_form c.args.bytes.now c.args.count c.args.start c.points.points c.points.place c.in_ok-at.next c.points.k
    c.in_ok-at.at c.points-test.true c.points.invariant
    c.in_ok-at.ensures.0 c.in_ok-at.ensures.1)
