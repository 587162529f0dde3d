use Rattle.std.proofs.Common.{◌+◌, sym, refl, ◌∙◌, ap, length, take, drop, arith}
use Rattle.std.proofs.lemmas.List.{take_rest, take_all, drop_all}
use Rattle.bstr.specs.Find.{is_byte}
use Rattle.hd_num.specs.Decimal.{is_point}
use Rattle.hd_num.proofs.LinePieces.{position_or_len-found, position_or_len-nowhere}
use Rattle.hd_num.proofs.decimal.split_point.Goals as goal

pub returns-in-Some-clause-before : goal.returns-in-Some-clause-before
returns-in-Some-clause-before c =
    let place = position_or_len-found (is_byte 46) is_point (λ x. refl) c.args.text.now c.in-Some.place c.in-Some.ensures.0 c.in-Some.ensures.1 in
    sym (ap (λ n. take n c.args.text.now) place)

pub returns-in-Some-clause-after : goal.returns-in-Some-clause-after
returns-in-Some-clause-after c =
    let place = position_or_len-found (is_byte 46) is_point (λ x. refl) c.args.text.now c.in-Some.place c.in-Some.ensures.0 c.in-Some.ensures.1 in
    take_rest c.args.text.now (c.in-Some.place + 1) ∙ sym (ap (λ n. drop (n + 1) c.args.text.now) place)

pub returns-in-None-clause-before : goal.returns-in-None-clause-before
returns-in-None-clause-before c =
    let place = position_or_len-nowhere (is_byte 46) is_point (λ x. refl) c.args.text.now c.in-None.ensures in
    sym (ap (λ n. take n c.args.text.now) place ∙ take_all (length c.args.text.now) c.args.text.now (omega arith))

pub returns-in-None-clause-after : goal.returns-in-None-clause-after
returns-in-None-clause-after c =
    let place = position_or_len-nowhere (is_byte 46) is_point (λ x. refl) c.args.text.now c.in-None.ensures in
    sym (ap (λ n. drop (n + 1) c.args.text.now) place ∙ drop_all (length c.args.text.now + 1) c.args.text.now (omega arith))
