use Rattle.hd_map.specs.Encoding.{values_of}
use Rattle.hd_morph.proofs.Raising.{RaisedBefore}
use Rattle.hd_morph.proofs.offsets.raise_stretch.Given as goal

abbrev pub invariant-loop-step : goal.invariant-loop-step
invariant-loop-step g l = let code = g.L.Lane.code in RaisedBefore (values_of code l.heights) l.from l.number l.to l.step (values_of code l.fn.tops) (values_of code l.tops)
