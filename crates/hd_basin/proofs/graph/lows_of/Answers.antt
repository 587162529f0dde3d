use Rattle.std.proofs.Common.{◌∙◌, [], ap, arith, sym}
use Rattle.std.proofs.lemmas.Option.{get_or_from_slice_get, slice_get_within}
use Rattle.hd_basin.specs.Graph.{lows_in}
use Rattle.hd_basin.proofs.FlatLists.{flat-more, flat-whole}
use Rattle.hd_basin.proofs.graph.lows_of.Goals as goal

pub tiles-preserved : goal.tiles-preserved
tiles-preserved c =
    let part = c.part-part.result in
    let at = c.part-part.ensures in
    flat-more lows_in [] c.tiles.lows c.push_lows.new.lows c.args.stock.now c.tiles.tile part (lows_in part) (slice_get_within c.args.stock.now c.tiles.tile part at)
    (ap lows_in (sym (get_or_from_slice_get c.args.stock.now c.tiles.tile part part at))) c.tiles.invariant c.in_ok-push_lows.ensures

pub returns : goal.returns
returns c = (let count = c.count-tiles.ensures in let past = c.tiles-test.false in c.tiles.invariant ∙ flat-whole lows_in [] c.args.stock.now c.tiles.tile (omega (arith, count, past)))
