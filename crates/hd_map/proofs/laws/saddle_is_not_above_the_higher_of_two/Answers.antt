use Rattle.hd_map.proofs.Saddles.{saddle-ultrametric}
use Rattle.hd_map.proofs.laws.saddle_is_not_above_the_higher_of_two.Goals as goal

pub returns : goal.returns
returns c = saddle-ultrametric
