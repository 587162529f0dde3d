use Rattle.hd_map.specs.Rank.{rank}
use Rattle.hd_map.proofs.Depth.{depth_by}
use Rattle.hd_steep.proofs.Ways.{IsWalk}
use Rattle.hd_survey.proofs.way.end_of_way.Given as goal

abbrev pub invariant-walk : goal.invariant-walk
invariant-walk g l = IsWalk (g.G.Heights.map l.grid) g.S.Side.NAME l.fn.at l.here

abbrev pub decreases-walk : goal.decreases-walk
decreases-walk g l = depth_by g.S.Side.NAME (rank (g.G.Heights.map l.grid) l.here)
