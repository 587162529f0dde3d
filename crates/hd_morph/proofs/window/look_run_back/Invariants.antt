use Rattle.std.proofs.Common.{◌≤◌}
use Rattle.hd_map.specs.Encoding.{values_of}
use Rattle.hd_morph.specs.Window.{AreLookedBack}
use Rattle.hd_morph.proofs.window.look_run_back.Given as goal

abbrev pub invariant-loop-place : goal.invariant-loop-place
invariant-loop-place g l = record {
  after : l.from ≤ l.place;
  before : l.place ≤ l.to;
  seen : AreLookedBack (values_of g.L.Lane.code l.fn.tops) l.step l.place l.to (values_of g.L.Lane.code l.tops);
}
