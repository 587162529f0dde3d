use Rattle.hd_steep.specs.Lowest.{IsLow}
use Rattle.hd_steep.proofs.Looking.{IsRoundTo}
use Rattle.hd_steep.proofs.lowest.lowest_round.Given as goal

abbrev pub invariant-loop-y : goal.invariant-loop-y
invariant-loop-y g l = let m = g.G.Heights.map l.grid in IsLow m g.S.Side.NAME (IsRoundTo m.adjacency l.fn.at l.y) l.lowest
