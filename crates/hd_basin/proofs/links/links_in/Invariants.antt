use Rattle.std.proofs.Common.{◌*◌}
use Rattle.hd_basin.specs.Links.{AreLinksTo}
use Rattle.hd_basin.proofs.links.links_in.Given as goal

abbrev pub invariant-loop-row : goal.invariant-loop-row
invariant-loop-row g l = AreLinksTo (g.G.Heights.map l.grid) g.S.Side.NAME l.plot.tiling.side l.plot.area (l.row * l.plot.area.columns) l.links.items
