use Rattle.std.proofs.Common.{take}
use Rattle.std.specs.List.{flat_map}
use Rattle.hd_basin.specs.Between.{AddsLinks}
use Rattle.hd_basin.specs.Graph.{pass_of}
use Rattle.hd_basin.proofs.basins.Basins.link_across.Given as goal

abbrev pub invariant-seams : goal.invariant-seams
invariant-seams g l = AddsLinks g.S.Side.NAME l.self l.roots.pits (flat_map (pass_of g.S.Side.NAME l.self.parts) (take l.seam-index l.seams)) l.fn.links.items l.links.items
