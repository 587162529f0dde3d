use Rattle.std.proofs.Common.{◌≡◌, ◌<◌, ℕ, false}
use Rattle.hd_steep.specs.Rows.{rank_in}
use Rattle.hd_basin.specs.Round.{is_missing}
use Rattle.hd_basin.proofs.edge.are_all_points.Given as goal

abbrev pub invariant-loop-rank : goal.invariant-loop-rank
invariant-loop-rank g l = (k : ℕ) → k < l.rank-index → is_missing g.S.Side.NAME (rank_in l.ranks k) ≡ false
