use Rattle.hd_morph.proofs.RaisedRectangles.{RaisedBefore}
use Rattle.hd_morph.proofs.rectangle.raise_within.Given as goal

abbrev pub invariant-loop-y : goal.invariant-loop-y
invariant-loop-y g l = RaisedBefore g.L.Lane.code l.fn.size l.fn.from l.fn.to l.fn.number l.heights l.y l.tops
