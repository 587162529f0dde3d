use Rattle.std.proofs.Common.{◌≡◌, drop, length, arith}
use Rattle.hd_morph.proofs.PlainNumbers.{take-joined}
use Rattle.hd_morph.proofs.offsets.dilate_by_offsets.Goals as goal

pub returns : goal.returns
returns g c =
    let size : c.extend_from_slice.new.self.len ≡ length c.raise_and_settle.new.tops = omega (arith, c.extend_from_slice.new.self.ok.0, c.raise_and_settle.auto.tops, c.deref_mut.ensures.len) in
    rw (take-joined c.extend_from_slice.new.self.len c.raise_and_settle.new.tops (drop (length c.raise_and_settle.new.tops) c.extend_from_slice.new.self.items) size) c.raise_and_settle.ensures
