use Rattle.hd_map.specs.Encoding.{values_of}
use Rattle.hd_morph.proofs.AreBetween.{BetweenBefore}
use Rattle.hd_morph.proofs.heights.first_outside.Given as goal

abbrev pub invariant-loop-index : goal.invariant-loop-index
invariant-loop-index g l = BetweenBefore l.least l.greatest (values_of g.L.Lane.code l.numbers) l.index
