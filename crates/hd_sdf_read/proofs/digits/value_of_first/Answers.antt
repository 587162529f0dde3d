use Rattle.std.proofs.Common.{◌∙◌}
use Rattle.hd_sdf_read.proofs.EightDigits.{raised_digits-below, raised_digits, raised_digits-length, raised_digits-number, raised_digits-word}
use Rattle.hd_sdf_read.proofs.digits.value_of_first.Goals as goal

pub returns : goal.returns
returns c xs eight bytes digits is =
    let count = c.args.count in
    let few = c.requires.few in
    c.value_of_eight.ensures (raised_digits xs count eight bytes digits few) (raised_digits-length xs count eight bytes digits few) (raised_digits-below xs count eight bytes digits few)
    (raised_digits-word xs count eight bytes digits few c.args.digits is c.requires.some)
    ∙ raised_digits-number xs count eight bytes digits few
