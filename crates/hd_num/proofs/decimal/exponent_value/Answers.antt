use Rattle.std.proofs.Common.{arith}
use Rattle.std.proofs.lemmas.Bool.{and_parts}
use Rattle.hd_num.proofs.Decimals.{count_of-parts, count_of-none, is_exponent-broken, is_exponent-right, digits_value-small, IsBounded-kept}
use Rattle.hd_num.proofs.decimal.exponent_value.Goals as goal

pub returns-in_err-magnitude-clause-form : goal.returns-in_err-magnitude-clause-form
returns-in_err-magnitude-clause-form c =
    let none = count_of-none c.unsigned_part-digits.result.now c.in_err-magnitude.ensures (omega arith) in
    rw c.from_residual.ensures (is_exponent-broken c.args.text.now c.unsigned_part-digits.result.now c.unsigned_part-digits.ensures none)

pub signed-requires : goal.signed-requires
signed-requires c =
    let count = count_of-parts c.unsigned_part-digits.result.now c.in_ok-magnitude.magnitude c.in_ok-magnitude.ensures in
    let value = count.value in
    omega (arith, value, digits_value-small c.unsigned_part-digits.result.now (and_parts _ _ count.numeral).1 (omega arith))

pub returns-clause-form : goal.returns-clause-form
returns-clause-form c =
    let count = count_of-parts c.unsigned_part-digits.result.now c.in_ok-magnitude.magnitude c.in_ok-magnitude.ensures in
    rw (IsBounded-kept c.signed.result 999 (omega arith) c.signed.ensures.small)
    (is_exponent-right c.args.text.now c.unsigned_part-digits.result.now c.in_ok-magnitude.magnitude c.is_negative.result c.signed.result c.unsigned_part-digits.ensures
    (omega arith) count c.is_negative.ensures c.signed.ensures.value)
