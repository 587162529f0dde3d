use Rattle.std.proofs.Common.{◌-ℤ◌, pos, length, refl, arith}
use Rattle.hd_num.proofs.Decimals.{IsValueOf-found, digits_value-joined, IsBounded-scaled, exponent-scaled}
use Rattle.hd_num.proofs.decimal.decimal_value.Goals as goal

pub returns : goal.returns
returns c =
    let split = c.in_ok-mantissa.ensures in
    let points = c.split_point.ensures in
    let small = split.small in
    rw (exponent-scaled c.in_ok-mantissa.exponent (length c.split_point.result.1.now) (omega arith) small)
    (IsValueOf-found c.args.word.now c.unsigned_part.result.now c.in_ok-mantissa.mantissa.now c.split_point.result.0.now c.split_point.result.1.now c.in_ok-digits.digits
    c.in_ok-mantissa.exponent (c.in_ok-mantissa.exponent -ℤ pos (length c.split_point.result.1.now)) c.unsigned_part.ensures split points.before points.after (omega arith) (omega arith) (omega arith)
    c.in_ok-more_digits.ensures.0 c.in_ok-digits.ensures.0
    (digits_value-joined c.split_point.result.0.now c.split_point.result.1.now c.in_ok-more_digits.field-0 c.in_ok-digits.digits c.in_ok-more_digits.ensures.0
    c.in_ok-digits.ensures.0 (omega arith) c.in_ok-more_digits.ensures.1 c.in_ok-digits.ensures.1)
    refl (IsBounded-scaled c.in_ok-mantissa.exponent (length c.split_point.result.1.now) (omega arith) small))
