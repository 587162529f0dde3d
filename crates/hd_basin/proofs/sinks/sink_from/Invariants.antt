use Rattle.hd_basin.proofs.AreLinks.{IsOnWay, depth_of}
use Rattle.hd_basin.proofs.sinks.sink_from.Given as goal

abbrev pub invariant-walk : goal.invariant-walk
invariant-walk g l = IsOnWay (g.G.Heights.map l._grid) g.S.Side.NAME l.fn._tiling.side l.fn._area l.start l.here

abbrev pub decreases-walk : goal.decreases-walk
decreases-walk g l = depth_of (g.G.Heights.map l._grid) g.S.Side.NAME l.fn._tiling.side l.fn._area l.here
