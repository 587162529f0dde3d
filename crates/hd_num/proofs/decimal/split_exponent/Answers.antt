use Rattle.std.proofs.Common.{[], ◌∷◌, ◌+◌, arith}
use Rattle.std.proofs.lemmas.List.{take_rest}
use Rattle.bstr.specs.Bytes.{is_in}
use Rattle.hd_num.specs.Decimal.{is_exponent_mark}
use Rattle.hd_num.proofs.Decimals.{is_exponent_mark-is_in, IsBounded-kept, has_exponent_form-broken, IsSplit-found, IsSplit-none}
use Rattle.hd_num.proofs.LinePieces.{position_or_len-found, position_or_len-nowhere}
use Rattle.hd_num.proofs.decimal.split_exponent.Goals as goal

pub returns-in_err-exponent-in-Some : goal.returns-in_err-exponent-in-Some
returns-in_err-exponent-in-Some c =
    let place = position_or_len-found (is_in (101 ∷ 69 ∷ [])) is_exponent_mark is_exponent_mark-is_in c.args.text.now c.in-Some.place c.in-Some.ensures.0 c.in-Some.ensures.1 in
    rw c.from_residual.ensures (has_exponent_form-broken c.args.text.now _ c.in-Some.place place c.in-Some.ensures.0.high
    (take_rest c.args.text.now (c.in-Some.place + 1)) c.in_err-exponent-in-Some.ensures.form)

pub returns-in_ok-exponent-in-Some : goal.returns-in_ok-exponent-in-Some
returns-in_ok-exponent-in-Some c =
    let place = position_or_len-found (is_in (101 ∷ 69 ∷ [])) is_exponent_mark is_exponent_mark-is_in c.args.text.now c.in-Some.place c.in-Some.ensures.0 c.in-Some.ensures.1 in
    rw (IsBounded-kept c.in_ok-exponent-in-Some.exponent 999 (omega arith) c.in_ok-exponent-in-Some.ensures.small)
    (IsSplit-found c.args.text.now _ c.in-Some.place c.in_ok-exponent-in-Some.exponent place c.in-Some.ensures.0.high (take_rest c.args.text.now (c.in-Some.place + 1))
    c.in_ok-exponent-in-Some.ensures.form.0 c.in_ok-exponent-in-Some.ensures.form.1 c.in_ok-exponent-in-Some.ensures.small)

pub returns-in-None : goal.returns-in-None
returns-in-None c = IsSplit-none c.args.text.now (position_or_len-nowhere (is_in (101 ∷ 69 ∷ [])) is_exponent_mark is_exponent_mark-is_in c.args.text.now c.in-None.ensures)
