use Rattle.std.proofs.Common.{◌≡◌, ◌++◌, ℕ, List, drop}
use Rattle.std.specs.List.{flat_map}
use Rattle.hd_graph.specs.declared.trees.Join.{Join}
use Rattle.hd_report.specs.Trees.{join_line, joining_of}
use Rattle.hd_report.proofs.trees.push_joins.Given as goal

-- the lines so far, and then those of the saddles that are left
abbrev pub invariant-lines : goal.invariant-lines
invariant-lines l =
    let line : Join → List ℕ = λ join. join_line l.fn.size (joining_of join) in
    l.text ++ flat_map line (drop l.join-index l.joins) ≡ l.fn.text ++ flat_map line l.joins
