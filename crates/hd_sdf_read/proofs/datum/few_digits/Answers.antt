use Rattle.std.proofs.Common.{◌≡◌, true, get_or, sym, arith, ◌∙◌}
use Rattle.std.specs.Char.{is_ascii_digit}
use Rattle.hd_num.proofs.Numerals.{is_ascii_digit-more, digits_value-bound, digits_value-more}
use Rattle.hd_sdf_read.proofs.datum.few_digits.Goals as goal

pub overflow_mul-number : goal.overflow_mul-number
overflow_mul-number c =
    let small = digits_value-bound c.args.text.now c.digits.place c.digits.number (omega arith) c.digits.invariant.digits c.digits.invariant.value in
    omega arith

pub overflow_add-number : goal.overflow_add-number
overflow_add-number c =
    let small = digits_value-bound c.args.text.now c.digits.place c.digits.number (omega arith) c.digits.invariant.digits c.digits.invariant.value in
    omega (arith, c.type_inv.text c.digits.place)

pub digits-preserved : goal.digits-preserved
digits-preserved c =
    let digit : is_ascii_digit (get_or c.args.text.now c.digits.place 0) ≡ true = sym c.is_ascii_digit.ensures.value ∙ c.if-not-is_ascii_digit.false in
    let more = digits_value-more c.args.text.now c.digits.place (omega arith) digit in
    record {
      digits = is_ascii_digit-more c.args.text.now c.digits.place (omega arith) digit c.digits.invariant.digits;
      value = omega (arith, more, c.from.ensures, c.digits.invariant.value);
    }

pub returns-then-not-is_ascii_digit : goal.returns-then-not-is_ascii_digit
returns-then-not-is_ascii_digit c = record {
  within = omega arith;
  digits = c.digits.invariant.digits;
  value = c.digits.invariant.value;
  bound = digits_value-bound c.args.text.now c.digits.place c.digits.number (omega arith) c.digits.invariant.digits c.digits.invariant.value;
}
