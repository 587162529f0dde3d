use Rattle.hd_map.specs.Passes.{IsLabelled}
use Rattle.hd_graph.proofs.Basins.{line-tells_saddles}
use Rattle.hd_graph.proofs.laws.flood_line_tells_the_saddles.Goals as goal

pub returns : goal.returns
returns c = λ m side labels lows passes line basins right of flooded. line-tells_saddles m side (IsLabelled m labels) basins passes right lows of line flooded
