-- The owners so far, and those of the lows that are left; the links tell the same owners.
use Rattle.std.proofs.Common.{◌≡◌, ◌++◌, drop}
use Rattle.hd_map.specs.declared.types.Rank.{Rank}
use Rattle.hd_prune.specs.Pruned.{owned_by}
use Rattle.hd_prune.specs.Staying.{ranks_of}
use Rattle.hd_prune.specs.Taken.{IsLinked}
use Rattle.hd_prune.proofs.order.owners.Given as goal

abbrev pub invariant-loop-low : goal.invariant-loop-low
invariant-loop-low g l = record {
  owned : (owner : Rank → Rank) → IsLinked (g.A.Around.map l.around) g.S.Side.NAME owner l.fn.links
      → l.owners ++ owned_by owner (ranks_of (drop l.low-index l.lows)) ≡ owned_by owner (ranks_of l.lows);
  kept : (owner : Rank → Rank) → IsLinked (g.A.Around.map l.around) g.S.Side.NAME owner l.fn.links → IsLinked (g.A.Around.map l.around) g.S.Side.NAME owner l.links;
}
