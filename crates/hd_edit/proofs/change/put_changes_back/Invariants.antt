use Rattle.std.proofs.Common.{◌≡◌, ◌≤◌, ◌+◌, All, length}
use Rattle.hd_edit.specs.Change.{IsChange, before_changes}
use Rattle.hd_edit.proofs.change.put_changes_back.Given as goal

abbrev pub invariant-loop-change : goal.invariant-loop-change
invariant-loop-change g l = record {
  map : before_changes l.left (g.G.Heights.map l.grid) ≡ before_changes l.fn.changes (g.G.Heights.map l.initial.grid);
  each : All (IsChange (g.G.Heights.map l.grid)) l.left;
  origin : g.G.Grid.comes_from l.initial.grid l.grid;
  rises : g.G.Grid.changes l.initial.grid ≤ g.G.Grid.changes l.grid;
  few : g.G.Grid.changes l.grid + length l.left ≤ g.G.Grid.changes l.initial.grid + length l.fn.changes;
}

abbrev pub decreases-loop-change : goal.decreases-loop-change
decreases-loop-change g l = length l.left
