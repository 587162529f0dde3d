use Rattle.std.proofs.Common.{◌+◌, ◌*◌}
use Rattle.hd_basin.specs.Round.{AreRanks}
use Rattle.hd_basin.proofs.round.push_row.Given as goal

abbrev pub invariant-loop-column : goal.invariant-loop-column
invariant-loop-column g l = AreRanks (g.G.Heights.map l.grid) g.S.Side.NAME l.area (l.row * (l.area.columns + 2) + l.column) l.ranks.items
