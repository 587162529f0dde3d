use Rattle.hd_basin.specs.Links.{AreLinks}
use Rattle.hd_basin.proofs.sinks.sweep.Given as goal

abbrev pub invariant-loop-place : goal.invariant-loop-place
invariant-loop-place g l = AreLinks (g.G.Heights.map l.grid) g.S.Side.NAME l.tiling.side l.area l.links
