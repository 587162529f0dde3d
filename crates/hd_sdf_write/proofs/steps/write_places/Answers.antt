use Rattle.std.proofs.Common.{arith}
use Rattle.std.proofs.lemmas.Fmt.{length-decimal-le}
use Rattle.hd_sdf_write.proofs.steps.write_places.Goals as goal

pub write_digits-digits-requires : goal.write_digits-digits-requires
write_digits-digits-requires c =
    let short = length-decimal-le c.args.places c.args.number c.requires.some c.requires.fits c.ranges.number.fits in
    (omega (arith, short, c.requires.few, c.requires.room), c.requires.within)

pub write_zeros-first-requires-clause-order : goal.write_zeros-first-requires-clause-order
write_zeros-first-requires-clause-order c =
    let short = length-decimal-le c.args.places c.args.number c.requires.some c.requires.fits c.ranges.number.fits in
    omega (arith, short, c.write_digits-digits.ensures.start, c.from.ensures)
