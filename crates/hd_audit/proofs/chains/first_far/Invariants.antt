use Rattle.hd_audit.proofs.ChainTops.{AreChainsTo}
use Rattle.hd_audit.proofs.chains.first_far.Given as goal

abbrev pub invariant-loop-k : goal.invariant-loop-k
invariant-loop-k g l = AreChainsTo (g.G.Heights.map l.surface) l.limit.side l.limit.percent.thousandths l.limit.sz l.lines l.tops.items l.k
