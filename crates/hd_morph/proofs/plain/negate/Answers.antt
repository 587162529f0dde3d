use Rattle.std.proofs.Common.{refl, ◌∙◌, arith}
use Rattle.hd_morph.proofs.Encodings.{number_in-read}
use Rattle.hd_morph.proofs.PlainNumbers.{NegatedBefore-more, AreNegated-all}
use Rattle.hd_morph.proofs.plain.negate.Goals as goal

pub loop-place-init : goal.loop-place-init
loop-place-init g c = record { whole = refl; done = λ k below. absurd (omega arith); left = λ k above. refl }

pub negated-requires : goal.negated-requires
negated-requires g c =
    let code = g.L.Lane.code in
    let number = c.index-values-place.result in
    let here = number_in-read code c.loop-place.values c.loop-place.place number (omega arith) c.index-values-place.is ∙ c.loop-place.invariant.left c.loop-place.place (omega arith) in
    rw here ((c.requires.each c.loop-place.place).bounded)

pub loop-place-preserved : goal.loop-place-preserved
loop-place-preserved g c =
    NegatedBefore-more g.L.Lane.code c.args.values.now c.loop-place.values c.loop-place.place c.index-values-place.result c.negated.result
    (omega arith) c.index-values-place.is c.negated.ensures c.loop-place.invariant

pub returns : goal.returns
returns g c = AreNegated-all g.L.Lane.code c.args.values.now c.loop-place.values c.loop-place.place (omega arith) c.loop-place.invariant
