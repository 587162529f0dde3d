use Rattle.std.proofs.Common.{None}
use Rattle.std.proofs.lemmas.Result.{err_from_is_err_and}
use Rattle.hd_check.proofs.AppendedTexts.{flat_map-more, AppendsPrefix-flat_map}
use Rattle.hd_audit.specs.Text.{point_line}
use Rattle.hd_audit.proofs.writing.push_lines.Goals as goal

pub returns-in_err-push_line : goal.returns-in_err-push_line
returns-in_err-push_line c = let p = err_from_is_err_and c.from_residual.result c.from_residual.ensures.1 in
    rw p.1 (AppendsPrefix-flat_map point_line (record { index = 0; parent = None; cut = None }) c.args.out.now c.loop-k.out c.push_line.new.out c.args.points.now c.loop-k.k
    (rw c.len-k-end.ensures at c.loop-k-test.true) c.loop-k.invariant (rw c.at.ensures at c.in_err-push_line.ensures))

pub loop-k-preserved : goal.loop-k-preserved
loop-k-preserved c = flat_map-more point_line (record { index = 0; parent = None; cut = None }) c.args.out.now c.loop-k.out c.push_line.new.out c.args.points.now c.loop-k.k
    (rw c.len-k-end.ensures at c.loop-k-test.true) c.loop-k.invariant (rw c.at.ensures at c.in_ok-push_line.ensures)
