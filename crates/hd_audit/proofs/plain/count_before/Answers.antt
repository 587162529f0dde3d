use Rattle.std.proofs.Common.{◌≡◌, ◌<◌, ◌^◌, ◌∙◌, rules}
use Rattle.std.proofs.lemmas.List.{take_rest}
use Rattle.hd_audit.proofs.PlainLines.{BeginsWith-digits}
use Rattle.hd_audit.proofs.plain.count_before.Goals as goal

pub returns : goal.returns
returns c =
    let text = c.args.text.now in
    let digits = c.leading_digits-digits.result.0 in
    let found = c.leading_digits-digits.ensures in
    let same : c.in_ok-count.count ≡ c.leading_digits-digits.result.1 = search rules in
    let small : c.in_ok-count.count < 2 ^ 32 = search rules in
    BeginsWith-digits text _ digits c.in_ok-count.count c.if-digits-eq0.false found.within found.digits (same ∙ found.value) small (take_rest text digits)
