use Rattle.std.proofs.Common.{◌<◌, ◌≤◌, ℕ, Some, get_or, length, map}
use Rattle.std.specs.Prelude.{MatchOption}
use Rattle.std.specs.BinaryHeap.{heap_items}
use Rattle.hd_map.specs.declared.types.Rank.{Rank}
use Rattle.hd_prune.specs.Kept.{pits_kept}
use Rattle.hd_audit.specs.Flooding.{ArePassed, IsFrontAt, IsLowestFirst}
use Rattle.hd_audit.specs.Lines.{rank_at}
use Rattle.hd_audit.specs.Listing.{AreShownTo}
use Rattle.hd_audit.specs.Placed.{IsPlaced}
use Rattle.hd_audit.specs.Standings.{AreStanding, seen_of}
use Rattle.hd_audit.proofs.listing.list_others.Given as goal

abbrev pub invariant-loop-place : goal.invariant-loop-place
invariant-loop-place g l = let m = g.G.Heights.map l.grid in record {
  next : MatchOption l.next (length l.points.items ≤ l.place) (IsPlaced m l.points.items l.place);
  shown : AreShownTo m g.S.Side.NAME l.limit.percent.thousandths l.limit.sz (pits_kept l.kept) l.lines (length l.lines);
  front : IsFrontAt m g.S.Side.NAME l.lines (seen_of l.front.standing.items) l.front.ahead (heap_items l.front.low);
  passed : (j : ℕ) (d : Rank) → j < l.place → ArePassed m g.S.Side.NAME l.front.ahead (get_or (map (rank_at m) l.points.items) j d);
  standing : (d : Rank) → l.place < length (map (rank_at m) l.points.items) → AreStanding m g.S.Side.NAME (Some (get_or (map (rank_at m) l.points.items) l.place d)) l.front.standing.items;
  heap : IsLowestFirst g.S.Side.NAME (heap_items l.front.low);
}
