use Rattle.hd_steep.proofs.Keys.{AreNegatedTo}
use Rattle.hd_steep.proofs.row.negate.Given as goal

abbrev pub invariant-loop-x : goal.invariant-loop-x
invariant-loop-x g l = AreNegatedTo g.L.Lane.code l.fn.keys l.keys l.x
