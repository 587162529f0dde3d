use Rattle.std.proofs.Common.{◌∙◌, [], ap, arith, sym}
use Rattle.std.proofs.lemmas.Option.{get_or_from_slice_get, slice_get_within}
use Rattle.hd_basin.specs.Graph.{passes_in}
use Rattle.hd_basin.proofs.FlatLists.{flat-more, flat-whole}
use Rattle.hd_basin.proofs.graph.passes_of.Goals as goal

pub tiles-preserved : goal.tiles-preserved
tiles-preserved g c =
    let stock = c.args.stock.now in
    let part = c.part-part.result in
    let at = c.part-part.ensures in
    flat-more (passes_in g.S.Side.NAME stock) [] c.tiles.passes c.push_passes.new.passes stock c.tiles.tile part (passes_in g.S.Side.NAME stock part) (slice_get_within stock c.tiles.tile part at)
    (ap (passes_in g.S.Side.NAME stock) (sym (get_or_from_slice_get stock c.tiles.tile part part at))) c.tiles.invariant c.in_ok-push_passes.ensures

pub returns : goal.returns
returns g c = (let count = c.count-tiles.ensures in let past = c.tiles-test.false in c.tiles.invariant
    ∙ flat-whole (passes_in g.S.Side.NAME c.args.stock.now) [] c.args.stock.now c.tiles.tile (omega (arith, count, past)))
