use Rattle.hd_num.proofs.AppendsPrefix.{prefix_first, prefix_then}
use Rattle.hd_check.specs.Text.{point_line}
use Rattle.std.proofs.lemmas.Result.{err_from_is_err_and}
use Rattle.hd_check.proofs.AppendedTexts.{append-last}
use Rattle.hd_check.proofs.writing.push_end_point.Goals as goal

pub returns-in_err-push_text : goal.returns-in_err-push_text
returns-in_err-push_text c = let p = err_from_is_err_and c.from_residual.result c.from_residual.ensures.1 in rw p.1
    (prefix_first c.args.out.now c.push_text.new.out c.args.key.now ((point_line c.args.at)) (c.in_err-push_text.ensures.err))

pub returns-in_err-push_point : goal.returns-in_err-push_point
returns-in_err-push_point c = let p = err_from_is_err_and c.from_residual-in_err-push_point.result c.from_residual-in_err-push_point.ensures.1 in rw p.1
    (prefix_then c.args.out.now c.push_text.new.out c.push_point.new.out c.args.key.now ((point_line c.args.at)) (c.in_ok-push_text.ensures.ok) (c.in_err-push_point.ensures))

pub returns : goal.returns
returns c = append-last c.args.out.now c.push_text.new.out c.push_point.new.out c.args.key.now ((point_line c.args.at)) (c.in_ok-push_text.ensures.ok) (c.in_ok-push_point.ensures)
