use Rattle.hd_map.proofs.Saddles.{saddle-sym}
use Rattle.hd_map.proofs.laws.saddle_is_the_same_both_ways.Goals as goal

pub returns : goal.returns
returns c = saddle-sym
