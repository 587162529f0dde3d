use Rattle.std.proofs.Common.{◌<◌, ℕ}
use Rattle.hd_check.specs.Rules.{point_of}
use Rattle.hd_audit.specs.Leaks.{LeaksTo}
use Rattle.hd_audit.proofs.cuts.first_leaking.Given as goal

abbrev pub invariant-loop-j : goal.invariant-loop-j
invariant-loop-j g l = (i : ℕ) → i < l.j → LeaksTo (g.G.Heights.map l.surface) l.limit.side l.limit.percent.thousandths l.limit.sz l.lines l.cut (point_of l.round i) → ⊥
