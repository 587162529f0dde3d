use Rattle.std.proofs.Common.{None}
use Rattle.std.specs.BinaryHeap.{heap_items}
use Rattle.hd_audit.specs.Flooding.{IsFront, IsLowestFirst}
use Rattle.hd_audit.specs.Standings.{AreStanding, seen_of}
use Rattle.hd_audit.proofs.listing.spread_kept.Given as goal

abbrev pub invariant-loop-place : goal.invariant-loop-place
invariant-loop-place g l = record {
  front : IsFront (g.G.Heights.map l.grid) g.S.Side.NAME l.lines None (seen_of l.front.standing.items) l.front.ahead (heap_items l.front.low) l.place;
  standing : AreStanding (g.G.Heights.map l.grid) g.S.Side.NAME None l.front.standing.items;
  heap : IsLowestFirst g.S.Side.NAME (heap_items l.front.low);
}
