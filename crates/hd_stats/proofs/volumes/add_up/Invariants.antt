use Rattle.std.proofs.Common.{◌*◌}
use Rattle.hd_stats.specs.Volumes.{AreVolumes}
use Rattle.hd_stats.proofs.volumes.add_up.Given as goal

-- the profiles seen so far
abbrev pub invariant-profiles : goal.invariant-profiles
invariant-profiles g l = let m = g.G.Heights.map l.grid in AreVolumes m l.kept l.reached (l.y * m.size.points) l.volumes.items
