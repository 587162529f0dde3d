use Rattle.std.proofs.Common.{◌+◌, ◌*◌}
use Rattle.hd_map.specs.Presence.{heights_below}
use Rattle.hd_stats.proofs.gather.with_profile.Given as goal

-- the points seen so far
abbrev pub invariant-points : goal.invariant-points
invariant-points g l = let m = g.G.Heights.map l.grid in g.T.Gather.is_of l.by (heights_below m (l.y * m.size.points + l.x)) l.sum
