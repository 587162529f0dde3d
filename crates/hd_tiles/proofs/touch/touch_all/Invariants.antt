use Rattle.std.proofs.Common.{◌<◌}
use Rattle.hd_tiles.specs.Stamps.{AreStamped}
use Rattle.hd_tiles.proofs.touch.touch_all.Given as goal

abbrev pub invariant-loop-tile : goal.invariant-loop-tile
invariant-loop-tile l = AreStamped (λ k. k < l.tile) l.stamp l.initial.stamps.items l.stamps.items
