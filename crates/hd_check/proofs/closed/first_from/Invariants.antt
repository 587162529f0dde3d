use Rattle.hd_check.specs.Profiles.{IsBehind}
use Rattle.hd_check.proofs.closed.first_from.Given as goal

abbrev pub invariant-loop-place : goal.invariant-loop-place
invariant-loop-place l = IsBehind l.size l.cut l.index l.place
