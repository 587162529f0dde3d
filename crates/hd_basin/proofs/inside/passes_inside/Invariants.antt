use Rattle.std.proofs.Common.{◌*◌, length}
use Rattle.hd_basin.specs.Inside.{AreMet}
use Rattle.hd_basin.proofs.inside.passes_inside.Given as goal

abbrev pub invariant-loop-row : goal.invariant-loop-row
invariant-loop-row g l = AreMet (g.G.Heights.map l.grid) g.S.Side.NAME l.plot.area l.labels (length l.nodes) (l.row * l.plot.area.columns) 0 l.meetings.lasts.items l.meetings.list.items
