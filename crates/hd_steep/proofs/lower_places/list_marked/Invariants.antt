use Rattle.std.proofs.Common.{◌≤◌, take}
use Rattle.hd_steep.specs.LowerPlaces.{AreListedBefore}
use Rattle.hd_steep.proofs.lower_places.list_marked.Given as goal

-- those of the columns so far
abbrev pub invariant-loop-x : goal.invariant-loop-x
invariant-loop-x g l = record {
  listed : AreListedBefore g.L.Lane.code l.level l.marks l.x (take l.count l.columns);
  few : l.count ≤ l.x;
}
