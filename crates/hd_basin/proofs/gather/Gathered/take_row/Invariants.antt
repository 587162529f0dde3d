use Rattle.std.proofs.Common.{◌+◌, ◌*◌}
use Rattle.hd_basin.specs.Gathering.{IsGathered}
use Rattle.hd_basin.proofs.gather.Gathered.take_row.Given as goal

abbrev pub invariant-loop-column : goal.invariant-loop-column
invariant-loop-column g l = IsGathered (g.G.Heights.map l.grid) g.S.Side.NAME l.plot.tiling.side l.plot.tile l.plot.area
    (l.row * l.plot.area.columns + l.column) l.self.nodes.items l.self.numbers.items l.self.labels.items
