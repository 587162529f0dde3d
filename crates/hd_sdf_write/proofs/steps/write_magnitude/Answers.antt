use Rattle.std.proofs.Common.{◌≤◌, ◌<◌, ◌/◌, ◌^◌, ℕ, length, ap, ◌∙◌, arith}
use Rattle.std.specs.Prelude.{decimal}
use Rattle.std.proofs.lemmas.Fmt.{length-decimal-le}
use Rattle.std.proofs.Math.Nat.{div-le_self}
use Rattle.hd_num.proofs.StepsText.{ten_power-rest, ten_power-some}
use Rattle.hd_sdf_write.proofs.steps.write_magnitude.Goals as goal

-- the digits of a number, and of a part of it
digits_few : (n : ℕ) → n < 2 ^ 64 → length (decimal n) ≤ 20
digits_few n fits = length-decimal-le 20 n (omega arith) (omega (arith, fits)) fits

part_few : (n unit : ℕ) → n < 2 ^ 64 → length (decimal (n / unit)) ≤ 20
part_few n unit fits = let less = div-le_self n unit in digits_few (n / unit) (omega (arith, less, fits))

pub write_digits-requires : goal.write_digits-requires
write_digits-requires c = let few = digits_few c.args.magnitude c.ranges.magnitude.fits in (omega (arith, few, c.requires.room), c.requires.within)

pub returns-then-places-eq0-clause-short : goal.returns-then-places-eq0-clause-short
returns-then-places-eq0-clause-short c = let few = digits_few c.args.magnitude c.ranges.magnitude.fits in omega (arith, few, c.write_digits.ensures.start)

pub nonzero_div-magnitude : goal.nonzero_div-magnitude
nonzero_div-magnitude c = ten_power-some c.pow-unit.result c.from.result c.pow-unit.ensures

pub nonzero_rem-magnitude : goal.nonzero_rem-magnitude
nonzero_rem-magnitude c = ten_power-some c.pow-unit.result c.from.result c.pow-unit.ensures

pub write_places-point-requires-clause-fits : goal.write_places-point-requires-clause-fits
write_places-point-requires-clause-fits c = ten_power-rest c.args.magnitude c.pow-unit.result c.args.places (c.pow-unit.ensures ∙ ap (λ n. 10 ^ n) c.from.ensures)

pub write_digits-requires-2 : goal.write_digits-requires-2
write_digits-requires-2 c =
    let few = part_few c.args.magnitude c.pow-unit.result c.ranges.magnitude.fits in
    let start = c.write_places-point.ensures.start in
    (omega (arith, few, start, c.requires.few, c.requires.room), omega (arith, start, c.requires.within, c.write_places-point.auto.text))

pub returns-clause-short : goal.returns-clause-short
returns-clause-short c =
    let few = part_few c.args.magnitude c.pow-unit.result c.ranges.magnitude.fits in
    omega (arith, few, c.write_digits-2.ensures.start, c.write_places-point.ensures.start, c.requires.few)
