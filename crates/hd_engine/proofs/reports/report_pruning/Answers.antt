use Rattle.std.proofs.Common.{◌<◌, List, sym, subst}
use Rattle.std.specs.Prelude.{All}
use Rattle.hd_map.specs.declared.types.RegionSize.{RegionSize}
use Rattle.hd_map.specs.declared.types.Size.{Size}
use Rattle.hd_map.specs.Map.{cell_count}
use Rattle.hd_prune.specs.declared.step.Step.{Step}
use Rattle.hd_prune.specs.Pruned.{leaving_of}
use Rattle.hd_report.specs.Prunings.{IsStepInside}
use Rattle.hd_survey.proofs.Found.{pruned_known}
use Rattle.hd_engine.proofs.reports.report_pruning.Goals as goal

pub list_pruning-requires-clause-steps : goal.list_pruning-requires-clause-steps
list_pruning-requires-clause-steps g c =
    let m = g.G.Heights.map c.args.grid.now in
    let known = pruned_known m g.S.Side.NAME c.args.percent.thousandths c.find_pruned.new.self c.pruned-pruned.result.now c.find_pruned.ensures.findings
    c.in_ok-find_pruned.ensures.found c.pruned-pruned.ensures in
    subst (λ (s : Size). All (λ (x : Step). IsStepInside s (leaving_of x)) c.as_slice.result.now) (sym c.size.ensures)
    (subst (λ (xs : List Step). All (λ (x : Step). IsStepInside m.size (leaving_of x)) xs) (sym c.as_slice.ensures) known.steps)

pub list_pruning-requires-clause-kept : goal.list_pruning-requires-clause-kept
list_pruning-requires-clause-kept g c =
    let m = g.G.Heights.map c.args.grid.now in
    let known = pruned_known m g.S.Side.NAME c.args.percent.thousandths c.find_pruned.new.self c.pruned-pruned.result.now c.find_pruned.ensures.findings
    c.in_ok-find_pruned.ensures.found c.pruned-pruned.ensures in
    subst (λ (s : Size). All (λ (r : RegionSize). r.pit.index < cell_count s) c.as_slice-2.result.now) (sym c.size.ensures)
    (subst (λ (rs : List RegionSize). All (λ (r : RegionSize). r.pit.index < cell_count m.size) rs) (sym c.as_slice-2.ensures) known.kept)
