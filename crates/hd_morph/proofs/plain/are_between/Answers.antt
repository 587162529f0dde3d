use Rattle.std.proofs.Common.{refl, arith, w64}
use Rattle.std.proofs.lemmas.Int.{to_z-of_z}
use Rattle.hd_map.specs.Encoding.{values_of}
use Rattle.hd_morph.proofs.Encodings.{values_of-length, value_at-read}
use Rattle.hd_morph.proofs.AreBetween.{BetweenBefore-tested, AreBetween-tested}
use Rattle.hd_morph.proofs.plain.are_between.Goals as goal

pub loop-place-init : goal.loop-place-init
loop-place-init g c = (λ _. record { each = λ k below. absurd (omega arith) }, λ _. refl)

pub loop-place-preserved : goal.loop-place-preserved
loop-place-preserved g c =
    let code = g.L.Lane.code in
    let values = values_of code c.args.numbers.now in
    let here = value_at-read code c.args.numbers.now c.loop-place.place c.index-numbers-place.result c.loop-place-test.true c.index-numbers-place.is in
    BetweenBefore-tested _ _ values c.loop-place.place c.loop-place.all c.is_between-all.result (rw here at c.is_between-all.ensures) c.loop-place.invariant

pub returns : goal.returns
returns g c =
    let code = g.L.Lane.code in
    let values = values_of code c.args.numbers.now in
    let least = to_z-of_z w64 c.args.least c.ranges.least in
    let greatest = to_z-of_z w64 c.args.greatest c.ranges.greatest in
    AreBetween-tested c.args.least c.args.greatest values c.loop-place.place c.loop-place.all (omega (arith, c.loop-place-test.false, values_of-length code c.args.numbers.now))
    (rw (least, greatest) at c.loop-place.invariant)
