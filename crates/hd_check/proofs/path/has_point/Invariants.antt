use Rattle.std.proofs.Common.{◌≡◌, ◌<◌, ℕ}
use Rattle.hd_check.specs.Rules.{point_of}
use Rattle.hd_check.proofs.path.has_point.Given as goal

abbrev pub invariant-loop-k : goal.invariant-loop-k
invariant-loop-k l = (i : ℕ) → i < l.k → point_of l.points i ≡ l.at → ⊥
