use Rattle.std.proofs.Common.{◌≤◌}
use Rattle.hd_map.specs.Encoding.{values_of}
use Rattle.hd_morph.specs.Window.{AreWidened}
use Rattle.hd_morph.proofs.window.widen_run.Given as goal

abbrev pub invariant-loop-place : goal.invariant-loop-place
invariant-loop-place g l = record {
  after : l.from ≤ l.place;
  before : l.place ≤ l.to;
  widened : AreWidened (values_of g.L.Lane.code l.fn.tops) l.step l.from l.place (values_of g.L.Lane.code l.tops);
}
