use Rattle.hd_graph.proofs.RegionBasins.{regions-basins, regions-lows}
use Rattle.hd_graph.proofs.laws.regions_are_basins.Goals as goal

pub returns : goal.returns
returns c = record { basins = regions-basins; lows = λ m side labels lows regions pits. regions-lows m side labels regions lows pits }
