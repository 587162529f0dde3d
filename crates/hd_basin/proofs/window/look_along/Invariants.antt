use Rattle.std.proofs.Common.{◌≡◌, ◌+◌, ◌*◌}
use Rattle.hd_basin.specs.Frames.{AreFilled}
use Rattle.hd_basin.proofs.window.look_along.Given as goal

abbrev pub invariant-loop-column : goal.invariant-loop-column
invariant-loop-column g l = record {
  counted : l.looks ≡ l.fn.looks + l.column;
  filled : AreFilled (g.T.Looked.map l.tiles) l.frame (l.row * l.frame.columns + l.column) l.heights.items;
}
