use Rattle.hd_basin.specs.Links.{LedTo}
use Rattle.hd_basin.proofs.sinks.lead.Given as goal

abbrev pub invariant-loop-place : goal.invariant-loop-place
invariant-loop-place g l = LedTo (g.G.Heights.map l.grid) g.S.Side.NAME l.tiling.side l.area l.place l.links
