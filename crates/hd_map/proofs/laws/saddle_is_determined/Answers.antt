use Rattle.hd_map.proofs.Saddles.{saddle-unique}
use Rattle.hd_map.proofs.laws.saddle_is_determined.Goals as goal

pub returns : goal.returns
returns c = saddle-unique
