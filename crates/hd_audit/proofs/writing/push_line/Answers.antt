use Rattle.std.proofs.Common.{◌++◌, ◌∷◌, []}
use Rattle.std.specs.Prelude.{decimal}
use Rattle.hd_num.proofs.AppendsPrefix.{prefix_first, prefix_then}
use Rattle.hd_audit.specs.Text.{count_word}
use Rattle.std.proofs.lemmas.Result.{err_from_is_err_and}
use Rattle.hd_check.proofs.AppendedTexts.{append-last}
use Rattle.hd_audit.proofs.writing.push_line.Goals as goal

pub returns-in_err-push_count : goal.returns-in_err-push_count
returns-in_err-push_count c = let p = err_from_is_err_and c.from_residual.result c.from_residual.ensures.1 in rw p.1
    (prefix_first c.args.out.now c.push_count.new.out (decimal c.args.point.index)
    ((32 ∷ []) ++ ((count_word c.args.point.parent) ++ ((32 ∷ []) ++ ((count_word c.args.point.cut) ++ (10 ∷ []))))) (c.in_err-push_count.ensures))

pub returns-in_err-push_text : goal.returns-in_err-push_text
returns-in_err-push_text c = let p = err_from_is_err_and c.from_residual-in_err-push_text.result c.from_residual-in_err-push_text.ensures.1 in rw p.1
    (prefix_then c.args.out.now c.push_count.new.out c.push_text.new.out (decimal c.args.point.index)
    ((32 ∷ []) ++ ((count_word c.args.point.parent) ++ ((32 ∷ []) ++ ((count_word c.args.point.cut) ++ (10 ∷ []))))) (c.in_ok-push_count.ensures)
    (prefix_first c.push_count.new.out c.push_text.new.out (32 ∷ []) ((count_word c.args.point.parent) ++ ((32 ∷ []) ++ ((count_word c.args.point.cut) ++ (10 ∷ []))))
    (c.in_err-push_text.ensures.err)))

pub returns-in_err-push_count_or_none : goal.returns-in_err-push_count_or_none
returns-in_err-push_count_or_none c = let p = err_from_is_err_and c.from_residual-in_err-push_count_or_none.result c.from_residual-in_err-push_count_or_none.ensures.1 in rw p.1
    (prefix_then c.args.out.now c.push_count.new.out c.push_count_or_none.new.out (decimal c.args.point.index)
    ((32 ∷ []) ++ ((count_word c.args.point.parent) ++ ((32 ∷ []) ++ ((count_word c.args.point.cut) ++ (10 ∷ []))))) (c.in_ok-push_count.ensures)
    (prefix_then c.push_count.new.out c.push_text.new.out c.push_count_or_none.new.out (32 ∷ [])
    ((count_word c.args.point.parent) ++ ((32 ∷ []) ++ ((count_word c.args.point.cut) ++ (10 ∷ [])))) (c.in_ok-push_text.ensures.ok)
    (prefix_first c.push_text.new.out c.push_count_or_none.new.out (count_word c.args.point.parent) ((32 ∷ []) ++ ((count_word c.args.point.cut) ++ (10 ∷ [])))
    (c.in_err-push_count_or_none.ensures))))

pub returns-in_err-push_text-2 : goal.returns-in_err-push_text-2
returns-in_err-push_text-2 c = let p = err_from_is_err_and c.from_residual-in_err-push_text-2.result c.from_residual-in_err-push_text-2.ensures.1 in rw p.1
    (prefix_then c.args.out.now c.push_count.new.out c.push_text-2.new.out (decimal c.args.point.index)
    ((32 ∷ []) ++ ((count_word c.args.point.parent) ++ ((32 ∷ []) ++ ((count_word c.args.point.cut) ++ (10 ∷ []))))) (c.in_ok-push_count.ensures)
    (prefix_then c.push_count.new.out c.push_text.new.out c.push_text-2.new.out (32 ∷ [])
    ((count_word c.args.point.parent) ++ ((32 ∷ []) ++ ((count_word c.args.point.cut) ++ (10 ∷ [])))) (c.in_ok-push_text.ensures.ok)
    (prefix_then c.push_text.new.out c.push_count_or_none.new.out c.push_text-2.new.out (count_word c.args.point.parent) ((32 ∷ []) ++ ((count_word c.args.point.cut) ++ (10 ∷ [])))
    (c.in_ok-push_count_or_none.ensures) (prefix_first c.push_count_or_none.new.out c.push_text-2.new.out (32 ∷ []) ((count_word c.args.point.cut) ++ (10 ∷ []))
    (c.in_err-push_text-2.ensures.err)))))

pub returns-in_err-push_count_or_none-2 : goal.returns-in_err-push_count_or_none-2
returns-in_err-push_count_or_none-2 c = let p = err_from_is_err_and c.from_residual-in_err-push_count_or_none-2.result c.from_residual-in_err-push_count_or_none-2.ensures.1 in
    rw p.1 (prefix_then c.args.out.now c.push_count.new.out c.push_count_or_none-2.new.out (decimal c.args.point.index)
    ((32 ∷ []) ++ ((count_word c.args.point.parent) ++ ((32 ∷ []) ++ ((count_word c.args.point.cut) ++ (10 ∷ []))))) (c.in_ok-push_count.ensures)
    (prefix_then c.push_count.new.out c.push_text.new.out c.push_count_or_none-2.new.out (32 ∷ [])
    ((count_word c.args.point.parent) ++ ((32 ∷ []) ++ ((count_word c.args.point.cut) ++ (10 ∷ [])))) (c.in_ok-push_text.ensures.ok)
    (prefix_then c.push_text.new.out c.push_count_or_none.new.out c.push_count_or_none-2.new.out (count_word c.args.point.parent)
    ((32 ∷ []) ++ ((count_word c.args.point.cut) ++ (10 ∷ []))) (c.in_ok-push_count_or_none.ensures)
    (prefix_then c.push_count_or_none.new.out c.push_text-2.new.out c.push_count_or_none-2.new.out (32 ∷ []) ((count_word c.args.point.cut) ++ (10 ∷ []))
    (c.in_ok-push_text-2.ensures.ok) (prefix_first c.push_text-2.new.out c.push_count_or_none-2.new.out (count_word c.args.point.cut) (10 ∷ [])
    (c.in_err-push_count_or_none-2.ensures))))))

pub returns-in_err-push_text-3 : goal.returns-in_err-push_text-3
returns-in_err-push_text-3 c = let p = err_from_is_err_and c.from_residual-in_err-push_text-3.result c.from_residual-in_err-push_text-3.ensures.1 in rw p.1
    (prefix_then c.args.out.now c.push_count.new.out c.push_text-3.new.out (decimal c.args.point.index)
    ((32 ∷ []) ++ ((count_word c.args.point.parent) ++ ((32 ∷ []) ++ ((count_word c.args.point.cut) ++ (10 ∷ []))))) (c.in_ok-push_count.ensures)
    (prefix_then c.push_count.new.out c.push_text.new.out c.push_text-3.new.out (32 ∷ [])
    ((count_word c.args.point.parent) ++ ((32 ∷ []) ++ ((count_word c.args.point.cut) ++ (10 ∷ [])))) (c.in_ok-push_text.ensures.ok)
    (prefix_then c.push_text.new.out c.push_count_or_none.new.out c.push_text-3.new.out (count_word c.args.point.parent) ((32 ∷ []) ++ ((count_word c.args.point.cut) ++ (10 ∷ [])))
    (c.in_ok-push_count_or_none.ensures) (prefix_then c.push_count_or_none.new.out c.push_text-2.new.out c.push_text-3.new.out (32 ∷ [])
    ((count_word c.args.point.cut) ++ (10 ∷ [])) (c.in_ok-push_text-2.ensures.ok)
    (prefix_then c.push_text-2.new.out c.push_count_or_none-2.new.out c.push_text-3.new.out (count_word c.args.point.cut) (10 ∷ []) (c.in_ok-push_count_or_none-2.ensures)
    (c.in_err-push_text-3.ensures.err))))))

pub returns : goal.returns
returns c = (append-last c.args.out.now c.push_count.new.out c.push_text-3.new.out (decimal c.args.point.index)
    ((32 ∷ []) ++ ((count_word c.args.point.parent) ++ ((32 ∷ []) ++ ((count_word c.args.point.cut) ++ (10 ∷ []))))) (c.in_ok-push_count.ensures)
    (append-last c.push_count.new.out c.push_text.new.out c.push_text-3.new.out (32 ∷ [])
    ((count_word c.args.point.parent) ++ ((32 ∷ []) ++ ((count_word c.args.point.cut) ++ (10 ∷ [])))) (c.in_ok-push_text.ensures.ok)
    (append-last c.push_text.new.out c.push_count_or_none.new.out c.push_text-3.new.out (count_word c.args.point.parent) ((32 ∷ []) ++ ((count_word c.args.point.cut) ++ (10 ∷ [])))
    (c.in_ok-push_count_or_none.ensures) (append-last c.push_count_or_none.new.out c.push_text-2.new.out c.push_text-3.new.out (32 ∷ [])
    ((count_word c.args.point.cut) ++ (10 ∷ [])) (c.in_ok-push_text-2.ensures.ok)
    (append-last c.push_text-2.new.out c.push_count_or_none-2.new.out c.push_text-3.new.out (count_word c.args.point.cut) (10 ∷ []) (c.in_ok-push_count_or_none-2.ensures)
    (c.in_ok-push_text-3.ensures.ok))))))
