use Rattle.std.proofs.Common.{◌≡◌, ◌-◌, ◌<◌, length, take, false, get_or, arith, sym, ap, ◌∙◌}
use Rattle.std.specs.List.{suffix_len}
use Rattle.std.proofs.lemmas.List.Sums.{suffix_len_is}
use Rattle.hd_sdf_read.specs.Tokens.{is_gap}
use Rattle.hd_sdf_read.proofs.token.drop_gaps.Goals as goal
use Rattle.hd_sdf_read.proofs.token.drop_gaps.Goals.{then-bytes-test+else-is_gap, else-bytes-test}

pub returns : goal.returns
returns c =
    let within = c.bytes.invariant.within in
    let stops : 0 < c.bytes.end → is_gap (get_or c.args.text.now (c.bytes.end - 1) 0) ≡ false = λ some.
    elim c.bytes-test.branch [ then-bytes-test+else-is_gap w ↦ sym w.is_gap.ensures ∙ w.if-is_gap.false | else-bytes-test w ↦ absurd (omega (arith, w.bytes-test, some)) ] in
    let blanks = suffix_len_is is_gap c.args.text.now c.bytes.end 0 within c.bytes.invariant.blanks stops in
    let end : c.bytes.end ≡ length c.args.text.now - suffix_len is_gap c.args.text.now = omega arith in
    ap (λ n. take n c.args.text.now) end
