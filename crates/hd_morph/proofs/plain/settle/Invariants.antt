use Rattle.hd_map.specs.Encoding.{values_of}
use Rattle.hd_morph.proofs.PlainNumbers.{SettledBefore}
use Rattle.hd_morph.proofs.plain.settle.Given as goal

abbrev pub invariant-loop-place : goal.invariant-loop-place
invariant-loop-place g l = SettledBefore g.L.Lane.code (values_of g.L.Lane.code l.heights) l.fn.tops l.number l.place l.tops
