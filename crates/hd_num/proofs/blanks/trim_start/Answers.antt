use Rattle.std.proofs.Common.{◌≡◌, sym, refl, arith, ◌∙◌}
use Rattle.std.specs.List.{prefix_len}
use Rattle.std.proofs.lemmas.List.{take_rest, drop_all}
use Rattle.std.proofs.lemmas.List.Sums.{prefix_len_is}
use Rattle.hd_num.specs.Lines.{is_blank}
use Rattle.hd_num.proofs.blanks.trim_start.Goals as goal

pub returns-then-not-is_blank : goal.returns-then-not-is_blank
returns-then-not-is_blank c =
    let place : prefix_len is_blank c.args.text.now ≡ c.bytes.place = prefix_len_is is_blank c.args.text.now c.bytes.place 0 (omega arith) c.bytes.invariant
    (λ _. sym c.is_blank.ensures ∙ c.if-not-is_blank.true) in
    rw (take_rest c.args.text.now c.bytes.place, place) refl

pub returns : goal.returns
returns c =
    let place : prefix_len is_blank c.args.text.now ≡ c.bytes.place = prefix_len_is is_blank c.args.text.now c.bytes.place 0 (omega arith) c.bytes.invariant (λ h. absurd (omega arith)) in
    rw place (sym (drop_all c.bytes.place c.args.text.now (omega arith)))
