use Rattle.std.proofs.Common.{◌*◌}
use Rattle.hd_basin.specs.Gathering.{IsGathered}
use Rattle.hd_basin.proofs.gather.gather.Given as goal

abbrev pub invariant-loop-row : goal.invariant-loop-row
invariant-loop-row g l = IsGathered (g.G.Heights.map l.grid) g.S.Side.NAME l.plot.tiling.side l.plot.tile l.plot.area
    (l.row * l.plot.area.columns) l.all.nodes.items l.all.numbers.items l.all.labels.items
