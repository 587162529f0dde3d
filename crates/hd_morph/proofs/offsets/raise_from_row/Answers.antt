use Rattle.std.proofs.Common.{ap, sym, ◌∙◌, ◌-◌, arith, w64}
use Rattle.std.proofs.lemmas.Int.{to_z-of_z}
use Rattle.hd_map.specs.Encoding.{values_of}
use Rattle.hd_morph.proofs.Encodings.{values_of-length}
use Rattle.hd_morph.proofs.Raising.{AreRaisedAcross-stretch, AreRaisedAcross-nowhere}
use Rattle.hd_morph.proofs.offsets.raise_from_row.Goals as goal

pub returns-then-ahead-behind : goal.returns-then-ahead-behind
returns-then-ahead-behind g c =
    let code = g.L.Lane.code in
    let heights = values_of-length code c.args.heights.now in
    AreRaisedAcross-nowhere (values_of code c.args.heights.now) c.args.reach c.args.column c.saturating_sub-ahead.result c.saturating_sub-behind.result c.args.number (values_of code c.args.tops.now)
    (heights ∙ c.requires.whole ∙ sym (values_of-length code c.args.tops.now)) c.saturating_sub-ahead.ensures c.saturating_sub-behind.ensures (omega (arith, heights, c.if-ahead-behind.true))

pub returns : goal.returns
returns g c =
    let code = g.L.Lane.code in
    let heights = values_of-length code c.args.heights.now in
    AreRaisedAcross-stretch (values_of code c.args.heights.now) c.args.reach c.args.column c.saturating_sub-ahead.result c.saturating_sub-behind.result _ c.args.number
    (values_of code c.args.tops.now) (values_of code c.raise_stretch.new.tops)
    (heights ∙ c.requires.whole ∙ sym (values_of-length code c.args.tops.now)) c.saturating_sub-ahead.ensures c.saturating_sub-behind.ensures (omega (arith, heights, c.if-ahead-behind.false))
    (sym (ap (λ n. n - c.saturating_sub-ahead.result - c.saturating_sub-behind.result) heights)) (rw (to_z-of_z w64 c.args.number c.ranges.number) at c.raise_stretch.ensures)
