use Rattle.hd_map.specs.Passes.{IsLabelled}
use Rattle.hd_graph.proofs.Basins.{basins-graph}
use Rattle.hd_graph.proofs.laws.passes_of_basins_are_a_graph.Goals as goal

pub returns : goal.returns
returns c = λ m side labels lows passes whole basins right of different. basins-graph m side (IsLabelled m labels) basins passes right whole lows of different
