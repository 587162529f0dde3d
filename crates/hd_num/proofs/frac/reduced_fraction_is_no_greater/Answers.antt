use Rattle.hd_num.proofs.Fractions.{IsFraction-no_greater}
use Rattle.hd_num.proofs.frac.reduced_fraction_is_no_greater.Goals as goal

pub returns : goal.returns
returns c = IsFraction-no_greater
