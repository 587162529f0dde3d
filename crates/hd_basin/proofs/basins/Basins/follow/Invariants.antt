use Rattle.hd_map.proofs.Depth.{depth_by}
use Rattle.hd_basin.specs.Parts.{low_or_none}
use Rattle.hd_basin.specs.Spots.{node_named}
use Rattle.hd_basin.proofs.AreKnown.{IsOnWay}
use Rattle.hd_basin.proofs.basins.Basins.follow.Given as goal

abbrev pub invariant-walk : goal.invariant-walk
invariant-walk g l = IsOnWay g.S.Side.NAME l.self l.roots.pits l.fn.spot l.here l.way.items

abbrev pub decreases-walk : goal.decreases-walk
decreases-walk g l = depth_by g.S.Side.NAME (low_or_none (node_named l.self.parts l.here))
