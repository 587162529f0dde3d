use Rattle.hd_graph.proofs.AgreeingMerges.{merges-same_passes}
use Rattle.hd_graph.proofs.laws.merges_rest_on_the_passes.Goals as goal

pub returns : goal.returns
returns c = λ below lows old new merges order same are. merges-same_passes below order lows old new same merges are
