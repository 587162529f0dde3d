use Rattle.hd_regions.proofs.ValuesDetermined.{kept-one}
use Rattle.hd_regions.proofs.laws.kept_pits_are_determined.Goals as goal

pub returns : goal.returns
returns c = kept-one c.pruning_is_determined.ensures
