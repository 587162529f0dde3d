use Rattle.hd_map.specs.Encoding.{values_of}
use Rattle.hd_morph.specs.Plain.{relief}
use Rattle.hd_morph.proofs.Raising.{RowsRaised}
use Rattle.hd_morph.proofs.offsets.raise_rows.Given as goal

abbrev pub invariant-loop-y : goal.invariant-loop-y
invariant-loop-y g l = let code = g.L.Lane.code in RowsRaised l.size l.element (relief l.size (values_of code l.heights)) l.y (values_of code l.tops)
