use Rattle.hd_stats.specs.Volumes.{AreReached}
use Rattle.hd_stats.proofs.volumes.reached_below.Given as goal

abbrev pub invariant-kept : goal.invariant-kept
invariant-kept g l = AreReached (g.G.Heights.map l.grid) g.S.Side.NAME l.kept l.number l.reached.items
