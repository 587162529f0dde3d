use Rattle.hd_map.specs.Encoding.{values_of}
use Rattle.hd_morph.specs.Plain.{relief}
use Rattle.hd_morph.proofs.Raising.{RowRaisedBefore}
use Rattle.hd_morph.proofs.offsets.raise_row.Given as goal

abbrev pub invariant-loop-index : goal.invariant-loop-index
invariant-loop-index g l = let code = g.L.Lane.code in RowRaisedBefore l.size l.element (relief l.size (values_of code l.heights)) l.y l.index (values_of code l.tops)
