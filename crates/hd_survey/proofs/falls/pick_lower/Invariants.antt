use Rattle.std.proofs.Common.{◌≡◌, ◌≤◌, length, take}
use Rattle.hd_survey.specs.Falls.{ranks_below, ranks_of}
use Rattle.hd_survey.proofs.falls.pick_lower.Given as goal

-- those among the places so far
abbrev pub invariant-places : goal.invariant-places
invariant-places g l = record {
  ranks : ranks_of l.lower.items ≡ ranks_below (g.G.Heights.map l.grid) g.S.Side.NAME l.fn.point (take l.place l.near.items);
  few : length l.lower.items ≤ l.place;
  room : l.lower.capacity ≡ 8;
}
