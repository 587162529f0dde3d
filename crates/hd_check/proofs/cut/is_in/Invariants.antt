use Rattle.std.proofs.Common.{◌-◌}
use Rattle.hd_check.proofs.Searching.{IsBetween}
use Rattle.hd_check.proofs.cut.is_in.Given as goal

abbrev pub invariant-halves : goal.invariant-halves
invariant-halves l = IsBetween l.size l.cut l.place l.low l.high

abbrev pub decreases-halves : goal.decreases-halves
decreases-halves l = l.high - l.low
