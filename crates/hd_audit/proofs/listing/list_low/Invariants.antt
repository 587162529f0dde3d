use Rattle.std.proofs.Common.{length, ◌-◌, Some}
use Rattle.std.specs.BinaryHeap.{heap_items}
use Rattle.hd_map.specs.Map.{cell_count}
use Rattle.hd_prune.specs.Kept.{pits_kept}
use Rattle.hd_audit.specs.Flooding.{IsFront, IsLowestFirst}
use Rattle.hd_audit.specs.Listing.{AreShownTo}
use Rattle.hd_audit.specs.Standings.{AreStanding, seen_of}
use Rattle.hd_audit.proofs.listing.list_low.Given as goal

abbrev pub invariant-loop-next : goal.invariant-loop-next
invariant-loop-next g l = let m = g.G.Heights.map l.grid in record {
  shown : AreShownTo m g.S.Side.NAME l.limit.percent.thousandths l.limit.sz (pits_kept l.kept) l.lines (length l.lines);
  front : IsFront m g.S.Side.NAME l.lines (Some l.level) (seen_of l.front.standing.items) l.front.ahead (heap_items l.front.low) (length l.lines);
  standing : AreStanding m g.S.Side.NAME (Some l.level) l.front.standing.items;
  heap : IsLowestFirst g.S.Side.NAME (heap_items l.front.low);
}

abbrev pub decreases-loop-next : goal.decreases-loop-next
decreases-loop-next g l = cell_count (g.G.Heights.map l.grid).size - length l.lines
