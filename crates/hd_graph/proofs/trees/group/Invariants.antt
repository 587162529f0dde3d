use Rattle.std.proofs.Common.{take}
use Rattle.hd_map.specs.Rank.{below_by}
use Rattle.hd_graph.specs.Parts.{AreGrouped, rises_of, rise_parts}
use Rattle.hd_graph.specs.Tells.{joins_of}
use Rattle.hd_graph.proofs.trees.group.Given as goal

abbrev pub invariant-loop-merge : goal.invariant-loop-merge
invariant-loop-merge g l = AreGrouped (below_by g.S.Side.NAME) (rise_parts (take l.merge-index (rises_of l.lows l.merges))) (joins_of l.joins.items)
