use Rattle.std.proofs.Common.{◌≡◌, List, Some, length, option_map, slice_get, refl, sym, ◌∙◌, ap}
use Rattle.std.proofs.lemmas.Option.{slice_get-map, slice_get_read}
use Rattle.hd_basin.specs.declared.kept.Kept.{Kept}
use Rattle.hd_basin.specs.declared.part.Part.{Part}
use Rattle.hd_basin.specs.Stock.{part_of}
use Rattle.hd_basin.proofs.Stocked.{tile-inside}
use Rattle.hd_basin.proofs.stock.Stock.part.Goals as goal

pub new-requires : goal.new-requires
new-requires c =
    let s = c.self.inside in
    let kept : Kept = c.index.result.now in
    let inside = tile-inside s.nodes s.tiles.items c.args.self.now c.self.view_is c.args.tile c.requires in
    c.self.invariant.there c.args.tile kept (slice_get_read s.tiles.items (length s.tiles.items) c.args.tile kept refl inside c.index.ensures)

pub returns : goal.returns
returns c =
    let s = c.self.inside in
    let kept : Kept = c.index.result.now in
    let inside = tile-inside s.nodes s.tiles.items c.args.self.now c.self.view_is c.args.tile c.requires in
    let at : slice_get s.tiles.items c.args.tile ≡ Some kept = slice_get_read s.tiles.items (length s.tiles.items) c.args.tile kept refl inside c.index.ensures in
    ap (λ (ps : List Part). slice_get ps c.args.tile) (sym c.self.view_is) ∙ slice_get-map (part_of s.nodes) s.tiles.items c.args.tile
    ∙ ap (option_map (part_of s.nodes)) at ∙ ap (λ (p : Part). Some p) (sym c.new.ensures)
