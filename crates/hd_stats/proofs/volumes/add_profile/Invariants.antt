use Rattle.std.proofs.Common.{◌+◌, ◌*◌}
use Rattle.hd_stats.specs.Volumes.{AreVolumes}
use Rattle.hd_stats.proofs.volumes.add_profile.Given as goal

-- the points seen so far
abbrev pub invariant-points : goal.invariant-points
invariant-points g l = let m = g.G.Heights.map l.grid in AreVolumes m l.kept l.reached (l.y * m.size.points + l.x) l.volumes.items
