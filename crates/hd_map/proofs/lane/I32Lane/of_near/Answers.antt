use Rattle.std.proofs.Common.{refl, arith, to_z, of_z, w32, w64}
use Rattle.std.proofs.lemmas.Int.{ints}
use Rattle.hd_map.specs.Encoding.{narrow, narrow_floor}
use Rattle.hd_map.proofs.Lanes.{near_number}
use Rattle.hd_map.proofs.lane.I32Lane.of_near.Goals as goal

pub overflow_cast-result : goal.overflow_cast-result
overflow_cast-result c =
    let low = c.requires.least in
    let high = c.requires.greatest in
    omega (arith, ints)

pub returns : goal.returns
returns c =
    let low = c.requires.least in
    let high = c.requires.greatest in
    near_number narrow narrow_floor (λ z. refl) c.args.height (to_z w32 (of_z w32 (to_z w64 (of_z w64 c.args.height)))) (omega (arith, ints)) low high (omega (arith, ints))
