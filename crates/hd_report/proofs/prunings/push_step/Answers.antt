use Rattle.std.proofs.Common.{◌++◌, ap, refl, ◌∙◌, rules, SFits, w64}
use Rattle.std.specs.Fmt.{signed_decimal}
use Rattle.std.proofs.lemmas.Int.{to_z-of_z}
use Rattle.hd_report.proofs.TextRuns.{append-then}
use Rattle.hd_report.proofs.prunings.push_step.Goals as goal

pub returns : goal.returns
returns c =
    let old = c.args.text.now in
    let fits : SFits w64 c.args.step.local = search rules in
    let word = c.in_ok-push_text.ensures.ok ∙ ap (λ xs. old ++ xs) c.as_slice.ensures in
    let pit = append-then old _ _ _ word c.in_ok-push_point.ensures refl in
    let second = append-then old _ _ _ pit c.in_ok-push_text-2.ensures.ok c.as_slice-2.ensures in
    let local = append-then old _ _ _ second c.in_ok-push_whole.ensures.ok (ap signed_decimal (to_z-of_z w64 c.args.step.local fits)) in
    let third = append-then old _ _ _ local c.in_ok-push_text-3.ensures.ok c.as_slice-3.ensures in
    let saddle = append-then old _ _ _ third c.in_ok-push_point-2.ensures refl in
    let fourth = append-then old _ _ _ saddle c.in_ok-push_text-4.ensures.ok c.as_slice-4.ensures in
    let into = append-then old _ _ _ fourth c.in_ok-push_point-3.ensures refl in
    append-then old _ _ _ into c.in_ok-push.ensures.ok refl
