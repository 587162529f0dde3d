use Rattle.std.proofs.lemmas.Result.{err_from_is_err_and}
use Rattle.hd_check.specs.Text.{point_line}
use Rattle.hd_check.proofs.AppendedTexts.{flat_map-more, AppendsPrefix-flat_map}
use Rattle.hd_check.proofs.writing.push_points.Goals as goal

pub returns-in_err-push_point : goal.returns-in_err-push_point
returns-in_err-push_point c = let p = err_from_is_err_and c.from_residual.result c.from_residual.ensures.1 in
    rw p.1 (AppendsPrefix-flat_map point_line (record { x = 0; y = 0 }) c.args.out.now c.loop-k.out c.push_point.new.out c.args.points.now c.loop-k.k c.loop-k-test.true
    c.loop-k.invariant c.in_err-push_point.ensures)

pub loop-k-preserved : goal.loop-k-preserved
loop-k-preserved c = flat_map-more point_line (record { x = 0; y = 0 }) c.args.out.now c.loop-k.out c.push_point.new.out c.args.points.now c.loop-k.k c.loop-k-test.true
    c.loop-k.invariant c.in_ok-push_point.ensures
