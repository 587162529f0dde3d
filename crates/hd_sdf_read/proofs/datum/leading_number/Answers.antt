use Rattle.std.proofs.Common.{◌<◌, length, arith, refl, length-drop}
use Rattle.hd_sdf_read.proofs.datum.leading_number.Goals as goal

pub returns : goal.returns
returns c =
    let lead = c.in_ok-count.ensures in
    let within = lead.within in
    let left : 0 < length c.split_at.result.1.now = rw c.split_at.ensures.back (omega (arith, length-drop c.in_ok-count.count c.args.text.now, within)) in
    record { count = c.in_ok-count.count; some = omega arith; digits = lead; after = c.split_at.ensures.back; begins = c.if-not-begins_gap.ensures refl }
