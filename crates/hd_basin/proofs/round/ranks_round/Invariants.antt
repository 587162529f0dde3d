use Rattle.std.proofs.Common.{◌+◌, ◌*◌}
use Rattle.hd_basin.specs.Round.{AreRanks}
use Rattle.hd_basin.proofs.round.ranks_round.Given as goal

abbrev pub invariant-loop-row : goal.invariant-loop-row
invariant-loop-row g l = AreRanks (g.G.Heights.map l.grid) g.S.Side.NAME l.area (l.row * (l.area.columns + 2)) l.ranks.items
