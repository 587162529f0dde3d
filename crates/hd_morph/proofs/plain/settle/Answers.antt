use Rattle.std.proofs.Common.{refl, sym, ◌∙◌, arith, w64}
use Rattle.std.proofs.lemmas.Int.{to_z-of_z}
use Rattle.hd_map.specs.Encoding.{most_filtered, values_of}
use Rattle.hd_morph.proofs.Encodings.{values_of-length, value_at-read}
use Rattle.hd_morph.proofs.PlainNumbers.{SettledBefore-more, SettledBefore-within}
use Rattle.hd_morph.proofs.plain.settle.Goals as goal

pub loop-place-init : goal.loop-place-init
loop-place-init g c = record { whole = refl; done = λ k below. absurd (omega arith); left = λ k above. refl }

pub settled-requires-clause-topped : goal.settled-requires-clause-topped
settled-requires-clause-topped g c =
    let code = g.L.Lane.code in
    let heights = c.args.heights.now in
    let place = c.loop-place.place in
    let size = c.requires.topped.whole in
    let height = value_at-read code heights place c.index-heights-place.result (omega (arith, size, values_of-length code heights, values_of-length code c.args.tops.now)) c.index-heights-place.is in
    rw height
    (λ z is. SettledBefore-within code (most_filtered code) (values_of code heights) c.args.tops.now c.loop-place.tops _ place c.index-tops-place.result z
    (omega arith) c.index-tops-place.is c.requires.topped c.loop-place.invariant is)

pub loop-place-preserved : goal.loop-place-preserved
loop-place-preserved g c =
    let code = g.L.Lane.code in
    let heights = c.args.heights.now in
    let place = c.loop-place.place in
    let size = c.requires.topped.whole in
    let height = value_at-read code heights place c.index-heights-place.result (omega (arith, size, values_of-length code heights, values_of-length code c.args.tops.now)) c.index-heights-place.is in
    SettledBefore-more code (values_of code heights) c.args.tops.now c.loop-place.tops _ place c.index-tops-place.result c.settled.result (omega arith) c.index-tops-place.is
    (rw height at c.settled.ensures) c.loop-place.invariant

pub returns : goal.returns
returns g c =
    let code = g.L.Lane.code in
    let number = to_z-of_z w64 c.args.number c.ranges.number in
    let size = values_of-length code c.args.tops.now in
    record { whole = c.loop-place.invariant.whole ∙ sym size; each = λ k inside. rw number at (c.loop-place.invariant.done k (omega (arith, size))) }
