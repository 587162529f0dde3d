use Rattle.std.proofs.Common.{◌∙◌, arith}
use Rattle.hd_num.proofs.Decimals.{decimal_of-is, decimal_of-none, IsBounded-kept}
use Rattle.hd_num.proofs.decimal.read_decimal.Goals as goal

pub returns-in_ok-from_slice-in-Some : goal.returns-in_ok-from_slice-in-Some
returns-in_ok-from_slice-in-Some c =
    let value = c.in-Some.ensures in
    rw (IsBounded-kept c.in-Some.exponent 1037 (omega arith) value.small)
    (decimal_of-is c.args.word.now c.in-Some.digits c.in-Some.exponent c.is_negative.result c.from_vec.result value c.is_negative.ensures
    (c.from_vec.ensures ∙ c.in_ok-from_slice-in-Some.ensures.items))

pub returns-in-None : goal.returns-in-None
returns-in-None c = decimal_of-none c.args.word.now c.in-None.ensures
