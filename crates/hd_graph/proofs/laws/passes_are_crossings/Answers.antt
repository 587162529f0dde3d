use Rattle.hd_map.specs.Passes.{IsLabelled}
use Rattle.hd_graph.proofs.Basins.{passes-crossings}
use Rattle.hd_graph.proofs.laws.passes_are_crossings.Goals as goal

pub returns : goal.returns
returns c = λ m side labels passes right. passes-crossings m side (IsLabelled m labels) passes right
