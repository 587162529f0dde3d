use Rattle.std.proofs.Common.{◌++◌, ◌∷◌, []}
use Rattle.std.specs.Prelude.{decimal}
use Rattle.std.proofs.lemmas.Result.{err_from_is_err_and}
use Rattle.hd_num.proofs.AppendsPrefix.{prefix_first, prefix_then}
use Rattle.hd_check.proofs.AppendedTexts.{append-last}
use Rattle.hd_check.proofs.writing.push_point.Goals as goal

pub returns-in_err-push_count : goal.returns-in_err-push_count
returns-in_err-push_count c = let p = err_from_is_err_and c.from_residual.result c.from_residual.ensures.1 in rw p.1
    (prefix_first c.args.out.now c.push_count.new.out (decimal c.args.at.x) ((32 ∷ []) ++ ((decimal c.args.at.y) ++ ((10 ∷ [])))) (c.in_err-push_count.ensures))

pub returns-in_err-push_text : goal.returns-in_err-push_text
returns-in_err-push_text c = let p = err_from_is_err_and c.from_residual-in_err-push_text.result c.from_residual-in_err-push_text.ensures.1 in rw p.1
    (prefix_then c.args.out.now c.push_count.new.out c.push_text.new.out (decimal c.args.at.x) ((32 ∷ []) ++ ((decimal c.args.at.y) ++ ((10 ∷ [])))) (c.in_ok-push_count.ensures)
    (prefix_first c.push_count.new.out c.push_text.new.out (32 ∷ []) ((decimal c.args.at.y) ++ ((10 ∷ []))) (c.in_err-push_text.ensures.err)))

pub returns-in_err-push_count-2 : goal.returns-in_err-push_count-2
returns-in_err-push_count-2 c = let p = err_from_is_err_and c.from_residual-in_err-push_count-2.result c.from_residual-in_err-push_count-2.ensures.1 in rw p.1
    (prefix_then c.args.out.now c.push_count.new.out c.push_count-2.new.out (decimal c.args.at.x) ((32 ∷ []) ++ ((decimal c.args.at.y) ++ ((10 ∷ [])))) (c.in_ok-push_count.ensures)
    (prefix_then c.push_count.new.out c.push_text.new.out c.push_count-2.new.out (32 ∷ []) ((decimal c.args.at.y) ++ ((10 ∷ []))) (c.in_ok-push_text.ensures.ok)
    (prefix_first c.push_text.new.out c.push_count-2.new.out (decimal c.args.at.y) ((10 ∷ [])) (c.in_err-push_count-2.ensures))))

pub returns-in_err-push_text-2 : goal.returns-in_err-push_text-2
returns-in_err-push_text-2 c = let p = err_from_is_err_and c.from_residual-in_err-push_text-2.result c.from_residual-in_err-push_text-2.ensures.1 in rw p.1
    (prefix_then c.args.out.now c.push_count.new.out c.push_text-2.new.out (decimal c.args.at.x) ((32 ∷ []) ++ ((decimal c.args.at.y) ++ ((10 ∷ [])))) (c.in_ok-push_count.ensures)
    (prefix_then c.push_count.new.out c.push_text.new.out c.push_text-2.new.out (32 ∷ []) ((decimal c.args.at.y) ++ ((10 ∷ []))) (c.in_ok-push_text.ensures.ok)
    (prefix_then c.push_text.new.out c.push_count-2.new.out c.push_text-2.new.out (decimal c.args.at.y) ((10 ∷ [])) (c.in_ok-push_count-2.ensures)
    (c.in_err-push_text-2.ensures.err))))

pub returns : goal.returns
returns c = append-last c.args.out.now c.push_count.new.out c.push_text-2.new.out (decimal c.args.at.x) ((32 ∷ []) ++ ((decimal c.args.at.y) ++ ((10 ∷ []))))
    (c.in_ok-push_count.ensures) (append-last c.push_count.new.out c.push_text.new.out c.push_text-2.new.out (32 ∷ []) ((decimal c.args.at.y) ++ ((10 ∷ [])))
    (c.in_ok-push_text.ensures.ok) (append-last c.push_text.new.out c.push_count-2.new.out c.push_text-2.new.out (decimal c.args.at.y) ((10 ∷ [])) (c.in_ok-push_count-2.ensures)
    (c.in_ok-push_text-2.ensures.ok)))
