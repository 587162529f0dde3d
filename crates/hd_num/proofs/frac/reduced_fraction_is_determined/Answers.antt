use Rattle.hd_num.proofs.Fractions.{IsFraction-determined}
use Rattle.hd_num.proofs.frac.reduced_fraction_is_determined.Goals as goal

pub returns : goal.returns
returns c = IsFraction-determined
