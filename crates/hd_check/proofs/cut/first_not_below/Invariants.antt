use Rattle.std.proofs.Common.{◌<◌, ℕ}
use Rattle.hd_check.specs.Rules.{IsBelowLevel, point_of}
use Rattle.hd_check.proofs.cut.first_not_below.Given as goal

abbrev pub invariant-loop-k : goal.invariant-loop-k
invariant-loop-k g l = (i : ℕ) → i < l.k → IsBelowLevel (g.G.Heights.map l.surface) l.side l.level (point_of l.cut i)
