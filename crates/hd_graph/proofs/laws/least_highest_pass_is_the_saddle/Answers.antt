use Rattle.hd_map.specs.Passes.{IsLabelled}
use Rattle.hd_graph.proofs.Basins.{least-is_saddle}
use Rattle.hd_graph.proofs.laws.least_highest_pass_is_the_saddle.Goals as goal

pub returns : goal.returns
returns c = λ m side labels passes basins right a b own own' apart s. least-is_saddle m side (IsLabelled m labels) basins passes right a b own own' apart s
