use Rattle.std.proofs.Common.{◌++◌, ◌∷◌, []}
use Rattle.std.specs.Prelude.{decimal, length, codes}
use Rattle.std.specs.Fmt.{signed_decimal}
use Rattle.hd_num.proofs.AppendsPrefix.{prefix_first, prefix_then}
use Rattle.hd_check.specs.Text.{line_text, point_line}
use Rattle.std.specs.List.{flat_map}
use Rattle.std.proofs.lemmas.Result.{err_from_is_err_and}
use Rattle.hd_check.proofs.AppendedTexts.{append-last}
use Rattle.hd_check.proofs.writing.push_path.Goals as goal

pub returns-in_err-push_saddle_line : goal.returns-in_err-push_saddle_line
returns-in_err-push_saddle_line c = let p = err_from_is_err_and c.from_residual.result c.from_residual.ensures.1 in rw p.1
    (prefix_first c.args.out.now c.push_saddle_line.new.out (line_text (codes "saddle" ∷ decimal c.args.saddle.0.x ∷ decimal c.args.saddle.0.y ∷ signed_decimal c.args.saddle.1
    ∷ [])) ((codes "path " ++ (decimal (length c.args.path.now) ++ 10 ∷ flat_map point_line c.args.path.now))) (c.in_err-push_saddle_line.ensures))

pub returns-in_err-push_counted : goal.returns-in_err-push_counted
returns-in_err-push_counted c = let p = err_from_is_err_and c.from_residual-in_err-push_counted.result c.from_residual-in_err-push_counted.ensures.1 in rw p.1
    (prefix_then c.args.out.now c.push_saddle_line.new.out c.push_counted.new.out
    (line_text (codes "saddle" ∷ decimal c.args.saddle.0.x ∷ decimal c.args.saddle.0.y ∷ signed_decimal c.args.saddle.1 ∷ []))
    ((codes "path " ++ (decimal (length c.args.path.now) ++ 10 ∷ flat_map point_line c.args.path.now))) (c.in_ok-push_saddle_line.ensures) (c.in_err-push_counted.ensures))

pub returns : goal.returns
returns c = append-last c.args.out.now c.push_saddle_line.new.out c.push_counted.new.out
    (line_text (codes "saddle" ∷ decimal c.args.saddle.0.x ∷ decimal c.args.saddle.0.y ∷ signed_decimal c.args.saddle.1 ∷ []))
    ((codes "path " ++ (decimal (length c.args.path.now) ++ 10 ∷ flat_map point_line c.args.path.now))) (c.in_ok-push_saddle_line.ensures) (c.in_ok-push_counted.ensures)
