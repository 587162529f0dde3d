use Rattle.std.proofs.Common.{◌+ℤ◌, refl, arith, to_z, of_z, w64}
use Rattle.std.proofs.lemmas.Int.{ints}
use Rattle.hd_map.specs.Encoding.{wide, wide_floor}
use Rattle.hd_map.proofs.Lanes.{plain_bounds}
use Rattle.hd_morph.proofs.RaisedLanes.{plus-raised}
use Rattle.hd_morph.proofs.raise.I64Raise.raised_by.Goals as goal

pub overflow_add-result : goal.overflow_add-result
overflow_add-result c =
    let bounds = plain_bounds wide wide_floor (λ z. refl) c.args.self (omega (arith, ints)) (omega (arith, ints)) c.requires.plain in
    let low = bounds.0 in
    let high = bounds.1 in
    omega (arith, ints)

pub returns : goal.returns
returns c =
    let bounds = plain_bounds wide wide_floor (λ z. refl) c.args.self (omega (arith, ints)) (omega (arith, ints)) c.requires.plain in
    let low = bounds.0 in
    let high = bounds.1 in
    plus-raised wide wide_floor (λ z. refl) c.args.self c.args.number (to_z w64 (of_z w64 (to_z w64 (of_z w64 c.args.self) +ℤ to_z w64 (of_z w64 c.args.number))))
    (omega (arith, ints)) (omega (arith, ints)) c.requires.plain c.requires.least c.requires.greatest (omega (arith, ints))
