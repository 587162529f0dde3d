use Rattle.std.proofs.Common.{◌≡◌, Some, map, slice_get, take}
use Rattle.hd_basin.specs.declared.part.Part.{Part}
use Rattle.hd_basin.specs.Between.{AddsLinks}
use Rattle.hd_basin.specs.Graph.{in_order}
use Rattle.hd_basin.specs.Parts.{pass_named}
use Rattle.hd_basin.proofs.basins.Basins.link_inside.Given as goal

abbrev pub invariant-joins : goal.invariant-joins
invariant-joins g l = (part : Part) → slice_get l.self.parts l.tile ≡ Some part
    → AddsLinks g.S.Side.NAME l.self l.roots.pits (map (λ j. in_order g.S.Side.NAME (pass_named part.nodes j)) (take l.join-index l.joins)) l.fn.links.items l.links.items
