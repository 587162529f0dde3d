use Rattle.std.proofs.Common.{◌<◌, ◌+◌, ℕ}
use Rattle.hd_check.proofs.Searching.{place_at}
use Rattle.hd_check.proofs.cut.first_not_rising.Given as goal

abbrev pub invariant-loop-k : goal.invariant-loop-k
invariant-loop-k l = (i : ℕ) → i + 1 < l.k → place_at l.size l.cut i < place_at l.size l.cut (i + 1)
