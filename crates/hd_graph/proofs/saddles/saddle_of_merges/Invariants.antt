use Rattle.std.proofs.Common.{◌≡◌, ◌+◌, ◌<◌, length}
use Rattle.hd_map.specs.Map.{Map}
use Rattle.hd_map.specs.Saddle.{IsSaddle}
use Rattle.hd_map.proofs.Depth.{depth_by}
use Rattle.hd_graph.specs.Links.{rank_at}
use Rattle.hd_graph.specs.Tells.{AreMergesOf}
use Rattle.hd_graph.proofs.MergeWays.{RestsOn}
use Rattle.hd_graph.proofs.saddles.saddle_of_merges.Given as goal

abbrev pub invariant-loop-end : goal.invariant-loop-end
invariant-loop-end g l = record {
  inside : l.end < length l.lows;
  other_inside : l.other < length l.lows;
  so : (m : Map) → AreMergesOf m g.S.Side.NAME l.lows l.merges → RestsOn m g.S.Side.NAME (rank_at l.lows l.from) (rank_at l.lows l.to) (rank_at l.lows l.end) (rank_at l.lows l.other) l.highest;
  met : l.end ≡ l.other → (m : Map) → AreMergesOf m g.S.Side.NAME l.lows l.merges → IsSaddle m g.S.Side.NAME (rank_at l.lows l.from) (rank_at l.lows l.to) l.highest;
}

abbrev pub decreases-loop-end : goal.decreases-loop-end
decreases-loop-end g l = depth_by g.S.Side.NAME (rank_at l.lows l.end) + depth_by g.S.Side.NAME (rank_at l.lows l.other)
