use Rattle.std.proofs.Common.{◌≡◌, ◌++◌, ◌∙◌, length, ap}
use Rattle.std.specs.List.{flat_map}
use Rattle.hd_prune.specs.Pruned.{leaving_of}
use Rattle.hd_report.specs.Prunings.{prune_heading, step_line}
use Rattle.hd_report.specs.Regions.{region_line}
use Rattle.hd_report.proofs.ListedTexts.{prune_text-listed}
use Rattle.hd_report.proofs.prunings.list_pruning.Goals as goal

pub returns : goal.returns
returns c =
    let steps = c.args.steps.now in
    let kept = c.args.kept.now in
    let heading = prune_heading c.args.side c.args.percent.thousandths (length steps) (length kept) in
    let told = flat_map (λ step. step_line c.args.size (leaving_of step)) steps in
    let lines = flat_map (region_line c.args.side c.args.size) kept in
    let first : c.push_heading.new.text ≡ heading = c.in_ok-push_heading.ensures ∙ ap (λ xs. xs ++ heading) c.in_ok-text.ensures in
    c.in_ok-push_regions.ensures ∙ ap (λ xs. xs ++ lines) (c.in_ok-push_steps.ensures ∙ ap (λ xs. xs ++ told) first)
    ∙ prune_text-listed c.args.side c.args.percent.thousandths c.args.size steps kept
