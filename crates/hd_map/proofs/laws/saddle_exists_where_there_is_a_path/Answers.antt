use Rattle.hd_map.proofs.Saddles.{saddle-exists}
use Rattle.hd_map.proofs.laws.saddle_exists_where_there_is_a_path.Goals as goal

pub returns : goal.returns
returns c = saddle-exists
