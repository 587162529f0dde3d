use Rattle.hd_regions.proofs.ValuesDetermined.{features-one}
use Rattle.hd_regions.proofs.laws.features_are_determined.Goals as goal

pub returns : goal.returns
returns c = λ m side thousandths a b whole. features-one c.pruning_is_determined.ensures m side thousandths a b
