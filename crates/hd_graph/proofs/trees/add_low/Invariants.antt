use Rattle.std.proofs.Common.{◌≤◌, ◌-◌, length}
use Rattle.hd_map.specs.Rank.{below_by}
use Rattle.hd_graph.proofs.Grouped.{AreBelow}
use Rattle.hd_graph.proofs.trees.add_low.Given as goal

abbrev pub invariant-loop-at : goal.invariant-loop-at
invariant-loop-at g l = record {
  within : l.at ≤ length l.lows.items;
  so : AreBelow (below_by g.S.Side.NAME) l.low l.lows.items l.at;
}

abbrev pub decreases-loop-at : goal.decreases-loop-at
decreases-loop-at g l = length l.lows.items - l.at
