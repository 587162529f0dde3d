use Rattle.std.proofs.Common.{◌≡◌, ◌∷◌, [], pos, int_lt, unsigned_abs, true, false, to_z, of_z, refl, sym, ap, subst, ◌∙◌}
use mir.Syntax.{w64}
use Rattle.std.proofs.lemmas.Int.{to_z-of_z}
use Rattle.std.proofs.lemmas.Result.{on_err_weaker}
use Rattle.hd_num.specs.Steps.{magnitude_text, steps_text}
use Rattle.hd_num.specs.Text.{AppendsPrefix}
use Rattle.hd_num.proofs.Percents.{OnErr-told}
use Rattle.hd_num.proofs.StepsText.{steps_text-negative, steps_text-unsigned}
use Rattle.hd_num.proofs.steps.push_steps.Goals as goal
use Rattle.hd_num.proofs.steps.push_steps.Goals.{then-steps-lt0+in_ok-push_text, else-steps-lt0}
use Rattle.hd_num.proofs.AppendsPrefix.{prefix_first, prefix_then}

pub returns-in_err-push_text-clause-err : goal.returns-in_err-push_text-clause-err
returns-in_err-push_text-clause-err c =
    let kept : to_z w64 (of_z w64 c.args.steps) ≡ c.args.steps = to_z-of_z w64 c.args.steps c.ranges.steps in
    let minus : int_lt c.args.steps (pos 0) ≡ true = ap (λ z. int_lt z (pos 0)) (sym kept) ∙ c.if-steps-lt0.true in
    let n = unsigned_abs c.args.steps in
    OnErr-told c.from_residual.result
    (subst (AppendsPrefix c.args.out.now c.push_text.new.out) (steps_text-negative c.args.steps n c.args.places refl minus)
    (prefix_first c.args.out.now c.push_text.new.out (45 ∷ []) (magnitude_text n c.args.places) c.in_err-push_text.ensures.err))

pub returns-clause-err : goal.returns-clause-err
returns-clause-err c =
    let kept : to_z w64 (of_z w64 c.args.steps) ≡ c.args.steps = to_z-of_z w64 c.args.steps c.ranges.steps in
    let n = c.unsigned_abs.result in
    let magnitude : n ≡ unsigned_abs c.args.steps = c.unsigned_abs.ensures.value ∙ ap unsigned_abs kept in
    elim c.if-steps-lt0.branch [
      | then-steps-lt0+in_ok-push_text w ↦
          let minus : int_lt c.args.steps (pos 0) ≡ true = ap (λ z. int_lt z (pos 0)) (sym kept) ∙ w.if-steps-lt0.true in
          on_err_weaker c.push_magnitude.result
          (λ h. subst (AppendsPrefix c.args.out.now c.push_magnitude.new.out) (steps_text-negative c.args.steps n c.args.places magnitude minus)
          (prefix_then c.args.out.now c.if-steps-lt0.out c.push_magnitude.new.out (45 ∷ []) (magnitude_text n c.args.places) (w.out-is ∙ w.in_ok-push_text.ensures.ok) h))
          c.push_magnitude.ensures.err
      | else-steps-lt0 w ↦
          let plus : int_lt c.args.steps (pos 0) ≡ false = ap (λ z. int_lt z (pos 0)) (sym kept) ∙ w.if-steps-lt0.false in
          on_err_weaker c.push_magnitude.result
          (λ h. subst (λ t. AppendsPrefix t c.push_magnitude.new.out (steps_text c.args.steps c.args.places)) w.out-is
          (subst (AppendsPrefix c.if-steps-lt0.out c.push_magnitude.new.out) (steps_text-unsigned c.args.steps n c.args.places magnitude plus) h))
          c.push_magnitude.ensures.err
    ]
