use Rattle.hd_map.specs.Passes.{IsLabelled}
use Rattle.hd_graph.proofs.AgreeingMerges.{merges-tell_saddles}
use Rattle.hd_graph.proofs.laws.merges_tell_the_saddles.Goals as goal

pub returns : goal.returns
returns c = λ m side labels lows passes merges basins right of are. merges-tell_saddles m side (IsLabelled m labels) basins passes right lows of merges are
