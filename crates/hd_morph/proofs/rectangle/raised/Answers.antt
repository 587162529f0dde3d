use Rattle.std.proofs.Common.{◌≡◌, drop, length, arith, w64}
use Rattle.std.proofs.lemmas.Int.{to_z-of_z}
use Rattle.hd_morph.proofs.PlainNumbers.{take-joined}
use Rattle.hd_morph.proofs.rectangle.raised.Goals as goal

pub returns : goal.returns
returns g c =
    let same = to_z-of_z w64 c.args.number c.ranges.number in
    let size : c.in_ok-tops.tops.len ≡ length c.raise_within.new.tops = omega (arith, c.in_ok-tops.tops.ok.0, c.raise_within.auto.tops, c.deref_mut.ensures.len) in
    rw (take-joined c.in_ok-tops.tops.len c.raise_within.new.tops (drop (length c.raise_within.new.tops) c.in_ok-tops.tops.items) size) (rw same at c.raise_within.ensures)
