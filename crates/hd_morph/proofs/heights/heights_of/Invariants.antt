use Rattle.hd_morph.proofs.Listed.{HeightsBefore}
use Rattle.hd_morph.proofs.heights.heights_of.Given as goal

abbrev pub invariant-loop-y : goal.invariant-loop-y
invariant-loop-y g l = HeightsBefore g.L.Lane.code (g.G.Heights.map l.grid) l.y l.heights.items
