use Rattle.hd_morph.proofs.PlainNumbers.{NegatedBefore}
use Rattle.hd_morph.proofs.plain.negate.Given as goal

abbrev pub invariant-loop-place : goal.invariant-loop-place
invariant-loop-place g l = NegatedBefore g.L.Lane.code l.fn.values l.place l.values
