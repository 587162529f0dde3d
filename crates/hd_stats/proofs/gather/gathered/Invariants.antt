use Rattle.std.proofs.Common.{◌*◌}
use Rattle.hd_map.specs.Presence.{heights_below}
use Rattle.hd_stats.proofs.gather.gathered.Given as goal

-- the profiles seen so far
abbrev pub invariant-profiles : goal.invariant-profiles
invariant-profiles g l = let m = g.G.Heights.map l.grid in g.T.Gather.is_of l.by (heights_below m (l.y * m.size.points)) l.sum
