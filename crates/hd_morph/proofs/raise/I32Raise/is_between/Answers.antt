use Rattle.std.proofs.Common.{◌≡◌, arith, to_z, of_z, w32, w64}
use Rattle.std.proofs.lemmas.Int.{ints, clamps, to_z-of_z}
use Rattle.hd_map.specs.Encoding.{narrow_floor}
use Rattle.hd_morph.proofs.RaisedLanes.{IsBetween-tested}
use Rattle.hd_morph.proofs.raise.I32Raise.is_between.Goals as goal

pub returns : goal.returns
returns c =
    let z = c.args.self in
    let low = c.max-low.result in
    let high = c.clamp-high.result in
    let least = c.max-low.ensures.value in
    let greatest = c.clamp-high.ensures.value in
    let same : to_z w32 (of_z w32 z) ≡ z = to_z-of_z w32 z c.ranges.self in
    let same_low : to_z w32 (of_z w32 (to_z w64 (of_z w64 low))) ≡ low = omega (arith, ints, clamps) in
    let same_high : to_z w32 (of_z w32 (to_z w64 (of_z w64 high))) ≡ high = omega (arith, ints, clamps) in
    rw (same, same_low, same_high) (IsBetween-tested narrow_floor z c.args.least c.args.greatest low high c.is_shown.result (rw same at c.is_shown.ensures)
    (λ above. (λ test. omega (arith, ints, clamps), λ within. omega (arith, ints, clamps)))
    (λ above. (λ test. omega (arith, ints, clamps), λ within. omega (arith, ints, clamps))))
