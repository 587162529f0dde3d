use Rattle.hd_map.specs.Encoding.{values_of}
use Rattle.hd_morph.proofs.RoundGreatests.{RowsDone}
use Rattle.hd_morph.proofs.round.spread_rows.Given as goal

abbrev pub invariant-loop-y : goal.invariant-loop-y
invariant-loop-y g l = RowsDone l.fn.size l.reach (values_of g.L.Lane.code l.fn.tops) l.y (values_of g.L.Lane.code l.tops)
