use Rattle.std.proofs.Common.{◌<◌, ◌≤◌, ◌-◌}
use Rattle.hd_map.specs.Encoding.{values_of}
use Rattle.hd_morph.specs.Window.{AreAheadGreatests}
use Rattle.hd_morph.proofs.window.look_ahead.Given as goal

abbrev pub invariant-wider : goal.invariant-wider
invariant-wider g l = record {
  some : 0 < l.seen;
  below : l.seen ≤ l.count;
  ahead : AreAheadGreatests (values_of g.L.Lane.code l.fn.tops) l.stride l.seen (values_of g.L.Lane.code l.tops);
}

abbrev pub decreases-wider : goal.decreases-wider
decreases-wider g l = l.count - l.seen
