use Rattle.std.proofs.Common.{length, ◌-◌, ◌≡◌, ◌<◌, slice_get, Some}
use Rattle.hd_steep.specs.Found.{AreFoundBefore}
use Rattle.hd_steep.proofs.pairs.find_borders.Given as goal

abbrev pub invariant-loop-index : goal.invariant-loop-index
invariant-loop-index g l = record {
  there : l.index < length l.places → slice_get l.places l.index ≡ Some l.place;
  found : AreFoundBefore (g.G.Heights.map l.grid) g.S.Side.NAME l.places l.place l.index l.found;
  long : length l.found.slots.items ≡ length l.fn.found.slots.items;
}

abbrev pub decreases-loop-index : goal.decreases-loop-index
decreases-loop-index g l = length l.places - l.index
