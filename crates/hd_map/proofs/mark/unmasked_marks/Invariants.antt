use Rattle.hd_map.proofs.PackedPoints.{AreCleared}
use Rattle.hd_map.proofs.mark.unmasked_marks.Given as goal

abbrev pub invariant-loop-index : goal.invariant-loop-index
invariant-loop-index l = AreCleared l.fn.marks l.index l.copy.items
