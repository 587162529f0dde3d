use Rattle.hd_map.proofs.Saddles.{saddle-above_pits}
use Rattle.hd_map.proofs.laws.saddle_of_two_pits_is_above_both.Goals as goal

pub returns : goal.returns
returns c = saddle-above_pits
