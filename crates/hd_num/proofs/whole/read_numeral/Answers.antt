use Rattle.std.proofs.Common.{◌≡◌, sym, true, get_or}
use Rattle.std.specs.Char.{is_ascii_digit}
use Rattle.hd_num.proofs.Numerals.{is_ascii_digit-more, digits_value-saturated}
use Rattle.hd_num.proofs.whole.read_numeral.Goals as goal

pub loop-byte-preserved : goal.loop-byte-preserved
loop-byte-preserved c =
    let digit : is_ascii_digit (get_or c.args.word.now c.loop-byte.byte-index 0) ≡ true = sym c.if-not-is_ascii_digit.ensures.value in
    let more = digits_value-saturated c.args.word.now c.loop-byte.byte-index c.loop-byte.value c.loop-byte-test.true digit c.loop-byte.invariant.value in
    record {
      digits = is_ascii_digit-more c.args.word.now c.loop-byte.byte-index c.loop-byte-test.true digit c.loop-byte.invariant.digits;
      value = cc;
    }
