use Rattle.std.proofs.Common.{◌≡◌, ◌*◌, length}
use Rattle.hd_map.specs.Presence.{heights_below}
use Rattle.hd_map.specs.Seen.{AreSeen}
use Rattle.hd_map.proofs.by_rows.presence_by_rows.Given as goal

-- the points of the profiles before, and a row of the right length
abbrev pub invariant-profiles : goal.invariant-profiles
invariant-profiles g l = let m = g.G.Heights.map l.grid in record {
  seen : AreSeen (heights_below m (l.y * m.size.points)) l.seen;
  row : length l.row.items ≡ m.size.points;
}
