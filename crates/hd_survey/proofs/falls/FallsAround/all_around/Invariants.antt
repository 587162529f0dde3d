-- The places so far are answered.
use Rattle.std.proofs.Common.{ℕ, None, ◌≡◌, ◌<◌, length, slice_index_or}
use Rattle.hd_prune.specs.Around.{IsLowerNeighbourAt}
use Rattle.hd_survey.proofs.falls.FallsAround.all_around.Given as goal

abbrev pub invariant-loop-k : goal.invariant-loop-k
invariant-loop-k g l = record {
  whole : length l.all ≡ 9;
  so : (k : ℕ) → k < l.k → IsLowerNeighbourAt (g.G.Heights.map l.self.0) g.S.Side.NAME l.saddle k (slice_index_or l.all k None);
}
