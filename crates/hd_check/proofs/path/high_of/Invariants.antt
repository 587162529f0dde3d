use Rattle.std.proofs.Common.{◌<◌, ℕ}
use Rattle.hd_map.specs.Order.{IsNotAbove}
use Rattle.hd_map.specs.Rank.{rank, below_by}
use Rattle.hd_check.specs.Rules.{point_of}
use Rattle.hd_check.proofs.path.high_of.Given as goal

abbrev pub invariant-loop-k : goal.invariant-loop-k
invariant-loop-k g l = let m = g.G.Heights.map l.surface in (i : ℕ) → i < l.k → IsNotAbove (below_by l.side) (rank m (point_of l.path i)) (rank m l.saddle)
