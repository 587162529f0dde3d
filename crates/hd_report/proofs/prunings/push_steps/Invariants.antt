use Rattle.std.proofs.Common.{◌≡◌, ◌++◌, ℕ, List, drop}
use Rattle.std.specs.List.{flat_map}
use Rattle.hd_prune.specs.declared.step.Step.{Step}
use Rattle.hd_prune.specs.Pruned.{leaving_of}
use Rattle.hd_report.specs.Prunings.{step_line}
use Rattle.hd_report.proofs.prunings.push_steps.Given as goal

-- the lines so far, and then those of the steps that are left
abbrev pub invariant-lines : goal.invariant-lines
invariant-lines l =
    let line : Step → List ℕ = λ step. step_line l.fn.size (leaving_of step) in
    l.text ++ flat_map line (drop l.step-index l.steps) ≡ l.fn.text ++ flat_map line l.steps
