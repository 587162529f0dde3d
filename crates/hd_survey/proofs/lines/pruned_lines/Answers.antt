use Rattle.std.proofs.lemmas.Result.{IfOk-weaker}
use Rattle.hd_prune.specs.Pruned.{leavings_of}
use Rattle.hd_survey.proofs.PrunedLines.{lines_inside}
use Rattle.hd_survey.proofs.PrunedPits.{pruning_pits}
use Rattle.hd_survey.proofs.lines.pruned_lines.Goals as goal

pub returns-clause-are : goal.returns-clause-are
returns-clause-are g c =
    let pruned = c.in_ok-pruned.ensures in
    IfOk-weaker c.border_lines.result _ _
    (λ lines are. record { steps = leavings_of c.in_ok-pruned.pruned.steps; last = pruned.last; owner = pruned.owner; pruning = pruned.pruning; are = are c.args.percent.thousandths pruned })
    c.border_lines.ensures

pub returns-clause-inside : goal.returns-clause-inside
returns-clause-inside g c =
    let m = g.G.Heights.map c.args.grid.now in
    let pruned = c.in_ok-pruned.ensures in
    let still = (pruning_pits m g.S.Side.NAME c.args.percent.thousandths (leavings_of c.in_ok-pruned.pruned.steps) pruned.last pruned.owner pruned.pruning).1 in
    IfOk-weaker c.border_lines.result _ _
    (λ lines are. lines_inside m g.S.Side.NAME pruned.last pruned.owner still lines (are c.args.percent.thousandths pruned))
    c.border_lines.ensures
