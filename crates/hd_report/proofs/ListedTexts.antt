-- Texts of lists of steps and joins as the definitions have them.
use Rattle.std.proofs.Common.{◌≡◌, ◌++◌, ◌∙◌, ℕ, List, length, ap, sym}
use Rattle.std.specs.List.{flat_map}
use Rattle.std.proofs.lemmas.List.{length-map}
use Rattle.std.proofs.lemmas.List.Folds.{flat_map-map}
use Rattle.hd_graph.specs.declared.trees.Join.{Join}
use Rattle.hd_graph.specs.Tells.{joins_of}
use Rattle.hd_map.specs.declared.types.RegionSize.{RegionSize}
use Rattle.hd_map.specs.declared.types.SideName.{SideName}
use Rattle.hd_map.specs.declared.types.Size.{Size}
use Rattle.hd_prune.specs.declared.step.Step.{Step}
use Rattle.hd_prune.specs.Pruned.{leaving_of, leavings_of}
use Rattle.hd_report.specs.Prunings.{prune_heading, prune_text, step_line}
use Rattle.hd_report.specs.Regions.{region_line}
use Rattle.hd_report.specs.Trees.{join_line, joining_of, tree_heading, tree_text}

-- the text of a pruning, from the lines of its steps
pub prune_text-listed : (side : SideName) (thousandths : ℕ) (size : Size) (steps : List Step) (kept : List RegionSize)
    → prune_heading side thousandths (length steps) (length kept) ++ flat_map (λ step. step_line size (leaving_of step)) steps ++ flat_map (region_line side size) kept
    ≡ prune_text side thousandths size (leavings_of steps) kept
prune_text-listed side thousandths size steps kept =
    let lines = flat_map (region_line side size) kept in
    ap (λ n. prune_heading side thousandths n (length kept) ++ flat_map (λ step. step_line size (leaving_of step)) steps ++ lines) (sym (length-map steps leaving_of))
    ∙ ap (λ xs. prune_heading side thousandths (length (leavings_of steps)) (length kept) ++ xs ++ lines) (sym (flat_map-map (step_line size) leaving_of steps))

-- the text of a tree, from the lines of its joins
pub tree_text-listed : (side : SideName) (size : Size) (joins : List Join)
    → tree_heading side (length joins) ++ flat_map (λ join. join_line size (joining_of join)) joins ≡ tree_text side size (joins_of joins)
tree_text-listed side size joins =
    ap (λ n. tree_heading side n ++ flat_map (λ join. join_line size (joining_of join)) joins) (sym (length-map joins joining_of))
    ∙ ap (λ lines. tree_heading side (length (joins_of joins)) ++ lines) (sym (flat_map-map (join_line size) joining_of joins))
