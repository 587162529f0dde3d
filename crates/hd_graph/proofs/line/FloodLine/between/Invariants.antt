use Rattle.hd_map.specs.Rank.{below_by}
use Rattle.hd_graph.proofs.Rises.{IsHighestSoFar}
use Rattle.hd_graph.proofs.line.FloodLine.between.Given as goal

abbrev pub invariant-loop-k : goal.invariant-loop-k
invariant-loop-k g l = IsHighestSoFar (below_by g.S.Side.NAME) g.met.S.Side.order l.stops l.i l.j l.k l.highest
