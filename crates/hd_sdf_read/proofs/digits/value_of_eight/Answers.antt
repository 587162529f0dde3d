use Rattle.hd_sdf_read.proofs.EightDigits.{eight_is}
use Rattle.hd_sdf_read.proofs.digits.value_of_eight.Goals as goal

pub returns : goal.returns
returns c ds eight below is = eight_is ds c.args.digits eight below is
