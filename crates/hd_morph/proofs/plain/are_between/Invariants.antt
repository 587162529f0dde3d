use Rattle.std.proofs.Common.{◌↔◌, IsTrue}
use Rattle.hd_map.specs.Encoding.{values_of}
use Rattle.hd_morph.proofs.AreBetween.{BetweenBefore}
use Rattle.hd_morph.proofs.plain.are_between.Given as goal

abbrev pub invariant-loop-place : goal.invariant-loop-place
invariant-loop-place g l = IsTrue l.all ↔ BetweenBefore l.least l.greatest (values_of g.L.Lane.code l.numbers) l.place
