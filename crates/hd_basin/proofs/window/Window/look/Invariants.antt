use Rattle.std.proofs.Common.{◌≤◌, ◌+◌, ◌*◌}
use Rattle.hd_basin.specs.Frames.{AreFilled}
use Rattle.hd_basin.proofs.window.Window.look.Given as goal

abbrev pub invariant-loop-row : goal.invariant-loop-row
invariant-loop-row g l = record {
  counted : l.looks ≤ l.fn.looks + l.row * l.frame.columns;
  filled : AreFilled (g.T.Looked.map l.tiles) l.frame (l.row * l.frame.columns) l.heights.items;
}
