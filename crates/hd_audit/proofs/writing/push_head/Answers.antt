use Rattle.std.proofs.Common.{◌++◌, ◌∷◌, [], List, ℕ, ap, ◌∙◌, subst, sym}
use Rattle.std.specs.Prelude.{codes}
use Rattle.hd_num.specs.Percent.{percent_text}
use Rattle.hd_num.specs.Text.{AppendsPrefix}
use Rattle.hd_num.proofs.AppendsPrefix.{prefix_first, prefix_then}
use Rattle.hd_check.specs.Text.{adjacency_word, side_word}
use Rattle.std.proofs.lemmas.Result.{err_from_is_err_and}
use Rattle.hd_check.proofs.AppendedTexts.{append-last}
use Rattle.hd_audit.proofs.TextParts.{audit_text-head}
use Rattle.hd_audit.proofs.writing.push_head.Goals as goal

pub returns-in_err-push_text : goal.returns-in_err-push_text
returns-in_err-push_text c = let p = err_from_is_err_and c.from_residual.result c.from_residual.ensures.1 in rw p.1
    (subst (λ (t : List ℕ). AppendsPrefix c.args.out.now c.push_text.new.out t) (sym
    (audit_text-head c.args.audit.now.side (percent_text c.args.audit.now.percent.thousandths) (adjacency_word c.args.audit.now.adjacency)))
    (prefix_first c.args.out.now c.push_text.new.out (codes "pruning ") ((side_word c.args.audit.now.side ++ codes " ")
    ++ ((percent_text c.args.audit.now.percent.thousandths) ++ (codes " " ++ (adjacency_word c.args.audit.now.adjacency ++ 10 ∷ [])))) (c.in_err-push_text.ensures.err)))

pub returns-in_err-push_side : goal.returns-in_err-push_side
returns-in_err-push_side c = let p = err_from_is_err_and c.from_residual-in_err-push_side.result c.from_residual-in_err-push_side.ensures.1 in rw p.1
    (subst (λ (t : List ℕ). AppendsPrefix c.args.out.now c.push_side.new.out t) (sym
    (audit_text-head c.args.audit.now.side (percent_text c.args.audit.now.percent.thousandths) (adjacency_word c.args.audit.now.adjacency)))
    (prefix_then c.args.out.now c.push_text.new.out c.push_side.new.out (codes "pruning ")
    ((side_word c.args.audit.now.side ++ codes " ") ++ ((percent_text c.args.audit.now.percent.thousandths)
    ++ (codes " " ++ (adjacency_word c.args.audit.now.adjacency ++ 10 ∷ [])))) (c.in_ok-push_text.ensures.ok)
    (prefix_first c.push_text.new.out c.push_side.new.out (side_word c.args.audit.now.side ++ codes " ")
    ((percent_text c.args.audit.now.percent.thousandths) ++ (codes " " ++ (adjacency_word c.args.audit.now.adjacency ++ 10 ∷ []))) (c.in_err-push_side.ensures))))

pub returns-in_err-push_percent : goal.returns-in_err-push_percent
returns-in_err-push_percent c = let p = err_from_is_err_and c.from_residual-in_err-push_percent.result c.from_residual-in_err-push_percent.ensures.1 in rw p.1
    (subst (λ (t : List ℕ). AppendsPrefix c.args.out.now c.push_percent.new.out t)
    (sym (audit_text-head c.args.audit.now.side (percent_text c.args.audit.now.percent.thousandths) (adjacency_word c.args.audit.now.adjacency)))
    (prefix_then c.args.out.now c.push_text.new.out c.push_percent.new.out (codes "pruning ")
    ((side_word c.args.audit.now.side ++ codes " ") ++ ((percent_text c.args.audit.now.percent.thousandths)
    ++ (codes " " ++ (adjacency_word c.args.audit.now.adjacency ++ 10 ∷ [])))) (c.in_ok-push_text.ensures.ok)
    (prefix_then c.push_text.new.out c.push_side.new.out c.push_percent.new.out (side_word c.args.audit.now.side ++ codes " ")
    ((percent_text c.args.audit.now.percent.thousandths) ++ (codes " " ++ (adjacency_word c.args.audit.now.adjacency ++ 10 ∷ []))) (c.in_ok-push_side.ensures)
    (prefix_first c.push_side.new.out c.push_percent.new.out (percent_text c.args.audit.now.percent.thousandths)
    (codes " " ++ (adjacency_word c.args.audit.now.adjacency ++ 10 ∷ [])) (c.in_err-push_percent.ensures.err)))))

pub returns-in_err-push_setting : goal.returns-in_err-push_setting
returns-in_err-push_setting c = let p = err_from_is_err_and c.from_residual-in_err-push_setting.result c.from_residual-in_err-push_setting.ensures.1 in rw p.1
    (subst (λ (t : List ℕ). AppendsPrefix c.args.out.now c.push_setting.new.out t)
    (sym (audit_text-head c.args.audit.now.side (percent_text c.args.audit.now.percent.thousandths) (adjacency_word c.args.audit.now.adjacency)))
    (prefix_then c.args.out.now c.push_text.new.out c.push_setting.new.out (codes "pruning ")
    ((side_word c.args.audit.now.side ++ codes " ") ++ ((percent_text c.args.audit.now.percent.thousandths)
    ++ (codes " " ++ (adjacency_word c.args.audit.now.adjacency ++ 10 ∷ [])))) (c.in_ok-push_text.ensures.ok)
    (prefix_then c.push_text.new.out c.push_side.new.out c.push_setting.new.out (side_word c.args.audit.now.side ++ codes " ")
    ((percent_text c.args.audit.now.percent.thousandths) ++ (codes " " ++ (adjacency_word c.args.audit.now.adjacency ++ 10 ∷ []))) (c.in_ok-push_side.ensures)
    (prefix_then c.push_side.new.out c.push_percent.new.out c.push_setting.new.out (percent_text c.args.audit.now.percent.thousandths)
    (codes " " ++ (adjacency_word c.args.audit.now.adjacency ++ 10 ∷ [])) (c.in_ok-push_percent.ensures.ok) (c.in_err-push_setting.ensures)))))

pub returns : goal.returns
returns c = (append-last c.args.out.now c.push_text.new.out c.push_setting.new.out (codes "pruning ")
    ((side_word c.args.audit.now.side ++ codes " ") ++ ((percent_text c.args.audit.now.percent.thousandths)
    ++ (codes " " ++ (adjacency_word c.args.audit.now.adjacency ++ 10 ∷ [])))) (c.in_ok-push_text.ensures.ok)
    (append-last c.push_text.new.out c.push_side.new.out c.push_setting.new.out (side_word c.args.audit.now.side ++ codes " ")
    ((percent_text c.args.audit.now.percent.thousandths) ++ (codes " " ++ (adjacency_word c.args.audit.now.adjacency ++ 10 ∷ []))) (c.in_ok-push_side.ensures)
    (append-last c.push_side.new.out c.push_percent.new.out c.push_setting.new.out (percent_text c.args.audit.now.percent.thousandths)
    (codes " " ++ (adjacency_word c.args.audit.now.adjacency ++ 10 ∷ [])) (c.in_ok-push_percent.ensures.ok) (c.in_ok-push_setting.ensures))))
    ∙ ap (λ (t : List ℕ). c.args.out.now ++ t) (sym (audit_text-head c.args.audit.now.side (percent_text c.args.audit.now.percent.thousandths)
    (adjacency_word c.args.audit.now.adjacency)))
