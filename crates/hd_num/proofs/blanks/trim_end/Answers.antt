use Rattle.std.proofs.Common.{◌≡◌, ◌-◌, ◌<◌, length, take, false, get_or, arith, sym, ap, ◌∙◌}
use Rattle.std.specs.List.{suffix_len}
use Rattle.std.proofs.lemmas.List.Sums.{suffix_len_is}
use Rattle.hd_num.specs.Lines.{is_blank}
use Rattle.hd_num.proofs.blanks.trim_end.Goals as goal
use Rattle.hd_num.proofs.blanks.trim_end.Goals.{then-bytes-test+else-is_blank, else-bytes-test}

pub returns : goal.returns
returns c =
    let within = c.bytes.invariant.within in
    let stops : 0 < c.bytes.end → is_blank (get_or c.args.text.now (c.bytes.end - 1) 0) ≡ false = λ some.
    elim c.bytes-test.branch [ then-bytes-test+else-is_blank w ↦ sym w.is_blank.ensures ∙ w.if-is_blank.false | else-bytes-test w ↦ absurd (omega (arith, w.bytes-test, some)) ] in
    let blanks = suffix_len_is is_blank c.args.text.now c.bytes.end 0 within c.bytes.invariant.blanks stops in
    let end : c.bytes.end ≡ length c.args.text.now - suffix_len is_blank c.args.text.now = omega arith in
    ap (λ n. take n c.args.text.now) end
