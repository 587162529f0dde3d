use Rattle.std.proofs.Common.{◌≡◌, ◌-◌, ◌^◌, sym, true, get_or}
use Rattle.std.specs.Char.{is_ascii_digit}
use Rattle.hd_num.proofs.Decimals.{digits_value_after-capped}
use Rattle.hd_num.proofs.Numerals.{is_ascii_digit-more}
use Rattle.hd_num.proofs.decimal.more_digits.Goals as goal

pub digits-preserved : goal.digits-preserved
digits-preserved c =
    let digit : is_ascii_digit (get_or c.args.text.now c.digits.byte-index 0) ≡ true = sym c.if-not-is_ascii_digit.ensures.value in
    let more = digits_value_after-capped (2 ^ 128 - 1) c.args.before c.args.text.now c.digits.byte-index c.digits.number c.digits-test.true digit c.digits.invariant.value in
    record {
      digits = is_ascii_digit-more c.args.text.now c.digits.byte-index c.digits-test.true digit c.digits.invariant.digits;
      value = cc;
    }
