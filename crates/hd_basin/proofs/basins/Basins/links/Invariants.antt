use Rattle.std.proofs.Common.{[], take}
use Rattle.std.specs.List.{flat_map}
use Rattle.hd_basin.specs.Between.{AddsLinks}
use Rattle.hd_basin.specs.Graph.{passes_in}
use Rattle.hd_basin.proofs.basins.Basins.links.Given as goal

abbrev pub invariant-tiles : goal.invariant-tiles
invariant-tiles g l = AddsLinks g.S.Side.NAME l.self l.roots.pits (flat_map (passes_in g.S.Side.NAME l.self.parts) (take l.tile l.self.parts)) [] l.links.items
