use Rattle.std.proofs.Common.{◌+◌, ◌*◌}
use Rattle.hd_basin.specs.Links.{AreLinksTo}
use Rattle.hd_basin.proofs.links.link_row.Given as goal

abbrev pub invariant-loop-column : goal.invariant-loop-column
invariant-loop-column g l = AreLinksTo (g.G.Heights.map l.grid) g.S.Side.NAME l.plot.tiling.side l.plot.area (l.row * l.plot.area.columns + l.column) l.links.items
