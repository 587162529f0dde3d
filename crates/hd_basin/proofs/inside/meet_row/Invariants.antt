use Rattle.std.proofs.Common.{◌+◌, ◌*◌, length}
use Rattle.hd_basin.specs.Inside.{AreMet}
use Rattle.hd_basin.proofs.inside.meet_row.Given as goal

abbrev pub invariant-loop-column : goal.invariant-loop-column
invariant-loop-column g l = AreMet (g.G.Heights.map l.grid) g.S.Side.NAME l.plot.area l.labels (length l._nodes) (l.row * l.plot.area.columns + l.column) 0 l.meetings.lasts.items l.meetings.list.items
