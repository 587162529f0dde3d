use Rattle.std.proofs.Common.{◌++◌, ◌∷◌, [], List, ℕ, ap, ◌∙◌, subst, sym, refl}
use Rattle.std.specs.Prelude.{codes}
use Rattle.hd_num.specs.Percent.{percent_text}
use Rattle.hd_num.specs.Text.{AppendsPrefix}
use Rattle.hd_num.proofs.AppendsPrefix.{prefix_first, prefix_then}
use Rattle.hd_check.specs.Text.{adjacency_word, line_text, side_word}
use Rattle.std.proofs.lemmas.Result.{err_from_is_err_and}
use Rattle.hd_check.proofs.AppendedTexts.{append-last}
use Rattle.hd_audit.proofs.TextParts.{audit_text-parts, points_text}
use Rattle.hd_audit.proofs.writing.write_audit.Goals as goal

pub returns-in_err-push_head : goal.returns-in_err-push_head
returns-in_err-push_head c = let p = err_from_is_err_and c.from_residual.result c.from_residual.ensures.1 in rw p.1
    (subst (λ (t : List ℕ). AppendsPrefix c.args.out.now c.push_head.new.out t) (sym (audit_text-parts c.args.audit.now c.args.audit.now.lines refl))
    (prefix_first c.args.out.now c.push_head.new.out (line_text (codes "pruning" ∷ side_word c.args.audit.now.side ∷ percent_text c.args.audit.now.percent.thousandths
    ∷ adjacency_word c.args.audit.now.adjacency ∷ [])) ((points_text c.args.audit.now.lines) ++ (codes "end" ++ 10 ∷ [])) (c.in_err-push_head.ensures)))

pub returns-in_err-push_points : goal.returns-in_err-push_points
returns-in_err-push_points c = let p = err_from_is_err_and c.from_residual-in_err-push_points.result c.from_residual-in_err-push_points.ensures.1 in rw p.1
    (subst (λ (t : List ℕ). AppendsPrefix c.args.out.now c.push_points.new.out t) (sym (audit_text-parts c.args.audit.now c.args.audit.now.lines refl))
    (prefix_then c.args.out.now c.push_head.new.out c.push_points.new.out (line_text
    (codes "pruning" ∷ side_word c.args.audit.now.side ∷ percent_text c.args.audit.now.percent.thousandths ∷ adjacency_word c.args.audit.now.adjacency ∷ []))
    ((points_text c.args.audit.now.lines) ++ (codes "end" ++ 10 ∷ [])) (c.in_ok-push_head.ensures)
    (prefix_first c.push_head.new.out c.push_points.new.out (points_text c.args.audit.now.lines) (codes "end" ++ 10 ∷ []) (c.in_err-push_points.ensures))))

pub returns-in_err-push_text : goal.returns-in_err-push_text
returns-in_err-push_text c = let p = err_from_is_err_and c.from_residual-in_err-push_text.result c.from_residual-in_err-push_text.ensures.1 in rw p.1
    (subst (λ (t : List ℕ). AppendsPrefix c.args.out.now c.push_text.new.out t) (sym (audit_text-parts c.args.audit.now c.args.audit.now.lines refl))
    (prefix_then c.args.out.now c.push_head.new.out c.push_text.new.out (line_text
    (codes "pruning" ∷ side_word c.args.audit.now.side ∷ percent_text c.args.audit.now.percent.thousandths ∷ adjacency_word c.args.audit.now.adjacency ∷ []))
    ((points_text c.args.audit.now.lines) ++ (codes "end" ++ 10 ∷ [])) (c.in_ok-push_head.ensures)
    (prefix_then c.push_head.new.out c.push_points.new.out c.push_text.new.out (points_text c.args.audit.now.lines) (codes "end" ++ 10 ∷ []) (c.in_ok-push_points.ensures)
    (c.in_err-push_text.ensures.err))))

pub returns : goal.returns
returns c = (append-last c.args.out.now c.push_head.new.out c.push_text.new.out (line_text
    (codes "pruning" ∷ side_word c.args.audit.now.side ∷ percent_text c.args.audit.now.percent.thousandths ∷ adjacency_word c.args.audit.now.adjacency ∷ []))
    ((points_text c.args.audit.now.lines) ++ (codes "end" ++ 10 ∷ [])) (c.in_ok-push_head.ensures)
    (append-last c.push_head.new.out c.push_points.new.out c.push_text.new.out (points_text c.args.audit.now.lines) (codes "end" ++ 10 ∷ []) (c.in_ok-push_points.ensures)
    (c.in_ok-push_text.ensures.ok))) ∙ ap (λ (t : List ℕ). c.args.out.now ++ t) (sym (audit_text-parts c.args.audit.now c.args.audit.now.lines refl))
