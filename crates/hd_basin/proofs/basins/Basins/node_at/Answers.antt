use Rattle.std.proofs.Common.{Option, ◌∙◌, ap, ap₂, slice_get, sym}
use Rattle.hd_basin.specs.declared.part.Part.{Part}
use Rattle.hd_basin.specs.Parts.{Pool, node_at, node_of}
use Rattle.hd_basin.proofs.basins.Basins.node_at.Goals as goal

pub returns : goal.returns
returns g c =
    let b = c.self.inside in
    c.node_at.ensures ∙ ap (λ (o : Option Part). node_at o c.place_in_tile.result) (sym c.part-part.ensures)
    ∙ ap₂ (λ tile place. node_at (slice_get b.stock tile) place) c.tile_of.ensures.value c.place_in_tile.ensures
    ∙ ap (λ (p : Pool). node_of p.size p.side p.parts c.args.at) c.self.view_is
