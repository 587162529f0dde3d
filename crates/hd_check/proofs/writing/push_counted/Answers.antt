use Rattle.std.proofs.Common.{◌++◌, ◌∷◌, []}
use Rattle.std.specs.Prelude.{decimal, length}
use Rattle.hd_num.proofs.AppendsPrefix.{prefix_first, prefix_then}
use Rattle.hd_check.specs.Text.{point_line}
use Rattle.std.specs.List.{flat_map}
use Rattle.std.proofs.lemmas.Result.{err_from_is_err_and}
use Rattle.hd_check.proofs.AppendedTexts.{append-last}
use Rattle.hd_check.proofs.writing.push_counted.Goals as goal

pub returns-in_err-push_text : goal.returns-in_err-push_text
returns-in_err-push_text c = let p = err_from_is_err_and c.from_residual.result c.from_residual.ensures.1 in rw p.1
    (prefix_first c.args.out.now c.push_text.new.out c.args.key.now ((decimal (length c.args.points.now)) ++ ((10 ∷ []) ++ ((flat_map point_line c.args.points.now))))
    (c.in_err-push_text.ensures.err))

pub returns-in_err-push_unsigned : goal.returns-in_err-push_unsigned
returns-in_err-push_unsigned c = let p = err_from_is_err_and c.from_residual-in_err-push_unsigned.result c.from_residual-in_err-push_unsigned.ensures.1 in rw p.1
    (prefix_then c.args.out.now c.push_text.new.out c.push_unsigned.new.out c.args.key.now
    ((decimal (length c.args.points.now)) ++ ((10 ∷ []) ++ ((flat_map point_line c.args.points.now)))) (c.in_ok-push_text.ensures.ok)
    (prefix_first c.push_text.new.out c.push_unsigned.new.out (decimal (length c.args.points.now)) ((10 ∷ []) ++ ((flat_map point_line c.args.points.now)))
    (c.in_err-push_unsigned.ensures.err)))

pub returns-in_err-push_text-2 : goal.returns-in_err-push_text-2
returns-in_err-push_text-2 c = let p = err_from_is_err_and c.from_residual-in_err-push_text-2.result c.from_residual-in_err-push_text-2.ensures.1 in rw p.1
    (prefix_then c.args.out.now c.push_text.new.out c.push_text-2.new.out c.args.key.now
    ((decimal (length c.args.points.now)) ++ ((10 ∷ []) ++ ((flat_map point_line c.args.points.now)))) (c.in_ok-push_text.ensures.ok)
    (prefix_then c.push_text.new.out c.push_unsigned.new.out c.push_text-2.new.out (decimal (length c.args.points.now)) ((10 ∷ []) ++ ((flat_map point_line c.args.points.now)))
    (c.in_ok-push_unsigned.ensures.ok) (prefix_first c.push_unsigned.new.out c.push_text-2.new.out (10 ∷ []) ((flat_map point_line c.args.points.now))
    (c.in_err-push_text-2.ensures.err))))

pub returns-in_err-push_points : goal.returns-in_err-push_points
returns-in_err-push_points c = let p = err_from_is_err_and c.from_residual-in_err-push_points.result c.from_residual-in_err-push_points.ensures.1 in rw p.1
    (prefix_then c.args.out.now c.push_text.new.out c.push_points.new.out c.args.key.now
    ((decimal (length c.args.points.now)) ++ ((10 ∷ []) ++ ((flat_map point_line c.args.points.now)))) (c.in_ok-push_text.ensures.ok)
    (prefix_then c.push_text.new.out c.push_unsigned.new.out c.push_points.new.out (decimal (length c.args.points.now)) ((10 ∷ []) ++ ((flat_map point_line c.args.points.now)))
    (c.in_ok-push_unsigned.ensures.ok) (prefix_then c.push_unsigned.new.out c.push_text-2.new.out c.push_points.new.out (10 ∷ []) ((flat_map point_line c.args.points.now))
    (c.in_ok-push_text-2.ensures.ok) (c.in_err-push_points.ensures))))

pub returns : goal.returns
returns c = append-last c.args.out.now c.push_text.new.out c.push_points.new.out c.args.key.now
    ((decimal (length c.args.points.now)) ++ ((10 ∷ []) ++ ((flat_map point_line c.args.points.now)))) (c.in_ok-push_text.ensures.ok)
    (append-last c.push_text.new.out c.push_unsigned.new.out c.push_points.new.out (decimal (length c.args.points.now)) ((10 ∷ []) ++ ((flat_map point_line c.args.points.now)))
    (c.in_ok-push_unsigned.ensures.ok) (append-last c.push_unsigned.new.out c.push_text-2.new.out c.push_points.new.out (10 ∷ []) ((flat_map point_line c.args.points.now))
    (c.in_ok-push_text-2.ensures.ok) (c.in_ok-push_points.ensures)))
