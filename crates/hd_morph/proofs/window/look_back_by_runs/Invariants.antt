use Rattle.std.proofs.Common.{◌≤◌, ◌-◌, length}
use Rattle.hd_map.specs.Encoding.{values_of}
use Rattle.hd_morph.specs.Window.{AreLookedBack}
use Rattle.hd_morph.proofs.window.look_back_by_runs.Given as goal

abbrev pub invariant-run : goal.invariant-run
invariant-run g l = record {
  after : l.step ≤ l.to;
  below : l.to ≤ length l.fn.tops;
  seen : AreLookedBack (values_of g.L.Lane.code l.fn.tops) l.step l.to (length l.fn.tops) (values_of g.L.Lane.code l.tops);
}

abbrev pub decreases-run : goal.decreases-run
decreases-run g l = l.to - l.step
