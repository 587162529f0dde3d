use Rattle.std.proofs.Common.{◌≤◌}
use Rattle.hd_map.specs.Presence.{IsPresence, heights_below}
use Rattle.hd_map.proofs.PositionOrder.{IsAt}
use Rattle.hd_map.proofs.presence.presence_of.Given as goal

-- the points seen so far
abbrev pub invariant-points : goal.invariant-points
invariant-points g l = let m = g.G.Heights.map l.grid in record {
  seen : IsPresence (heights_below m l.counter) l.seen;
  few : l.seen.count ≤ l.counter;
  at : IsAt m.size l.counter l.at;
}
