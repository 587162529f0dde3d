use Rattle.std.proofs.Common.{◌≤◌, ◌-◌}
use Rattle.hd_map.specs.Encoding.{values_of}
use Rattle.hd_morph.specs.Window.{AreWidened}
use Rattle.hd_morph.proofs.window.widen_by_runs.Given as goal

abbrev pub invariant-run : goal.invariant-run
invariant-run g l = record {
  below : l.from ≤ l.end;
  widened : AreWidened (values_of g.L.Lane.code l.fn.tops) l.step 0 l.from (values_of g.L.Lane.code l.tops);
}

abbrev pub decreases-run : goal.decreases-run
decreases-run g l = l.end - l.from
