use Rattle.std.proofs.Common.{◌+◌, ◌*◌}
use Rattle.hd_map.specs.Presence.{heights_below}
use Rattle.hd_map.specs.Seen.{AreSeen}
use Rattle.hd_map.proofs.by_rows.seen_with_row.Given as goal

-- the points before the profile and those of its first columns
abbrev pub invariant-columns : goal.invariant-columns
invariant-columns g l = let m = g.G.Heights.map l._grid in AreSeen (heights_below m (l.y * m.size.points + l.x)) l.all
