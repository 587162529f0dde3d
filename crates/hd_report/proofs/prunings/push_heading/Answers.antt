use Rattle.std.proofs.Common.{◌++◌, ap, refl, ◌∙◌}
use Rattle.hd_report.proofs.TextRuns.{append-then}
use Rattle.hd_report.proofs.prunings.push_heading.Goals as goal

pub returns : goal.returns
returns c =
    let old = c.args.text.now in
    let word = c.in_ok-push_text.ensures.ok ∙ ap (λ xs. old ++ xs) c.as_slice.ensures in
    let side = append-then old _ _ _ word c.in_ok-push_side.ensures refl in
    let blank = append-then old _ _ _ side c.in_ok-push.ensures.ok refl in
    let percent = append-then old _ _ _ blank c.in_ok-push_percent.ensures.ok refl in
    let second = append-then old _ _ _ percent c.in_ok-push-2.ensures.ok refl in
    let steps = append-then old _ _ _ second c.in_ok-push_unsigned.ensures.ok refl in
    let third = append-then old _ _ _ steps c.in_ok-push-3.ensures.ok refl in
    let kept = append-then old _ _ _ third c.in_ok-push_unsigned-2.ensures.ok refl in
    append-then old _ _ _ kept c.in_ok-push-4.ensures.ok refl
