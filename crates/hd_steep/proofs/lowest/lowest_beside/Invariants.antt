use Rattle.std.proofs.Common.{◌+◌}
use Rattle.hd_steep.specs.Lowest.{IsLow}
use Rattle.hd_steep.proofs.Looking.{IsRoundBefore}
use Rattle.hd_steep.proofs.lowest.lowest_beside.Given as goal

abbrev pub invariant-loop-x : goal.invariant-loop-x
invariant-loop-x g l = let m = g.G.Heights.map l.grid in IsLow m g.S.Side.NAME (IsRoundBefore m.adjacency l.at (l.y + 1) l.x) l.lowest
