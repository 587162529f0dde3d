use Rattle.std.proofs.Common.{◌<◌, ℕ, None}
use Rattle.hd_audit.specs.Rules.{FirstLeak}
use Rattle.hd_audit.proofs.cuts.first_leak.Given as goal

abbrev pub invariant-loop-k : goal.invariant-loop-k
invariant-loop-k g l = (i : ℕ) → i < l.k → FirstLeak (g.G.Heights.map l.surface) l.limit.side l.limit.percent.thousandths l.limit.sz l.lines i None
