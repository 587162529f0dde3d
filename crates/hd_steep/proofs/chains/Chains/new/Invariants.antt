use Rattle.std.proofs.Common.{length, ◌≤◌}
use Rattle.hd_steep.specs.Chains.{AreFirstsFrom, AreNextsFrom}
use Rattle.hd_steep.proofs.chains.Chains.new.Given as goal

abbrev pub invariant-loop-index : goal.invariant-loop-index
invariant-loop-index l = record {
  inside : l.index ≤ length l.places;
  firsts : AreFirstsFrom l.places l.room l.index l.firsts.items;
  nexts : AreNextsFrom l.places l.index l.nexts.items;
}

abbrev pub decreases-loop-index : goal.decreases-loop-index
decreases-loop-index l = l.index
