use Rattle.hd_map.proofs.Depth.{depth_by}
use Rattle.hd_basin.proofs.PointRoots.{OnWay}
use Rattle.hd_basin.proofs.basins.Basins.label.Given as goal

abbrev pub invariant-walk : goal.invariant-walk
invariant-walk g l = OnWay g.S.Side.NAME l.fn.self l.fn.at l.node

abbrev pub decreases-walk : goal.decreases-walk
decreases-walk g l = depth_by g.S.Side.NAME l.node.low
