use Rattle.std.proofs.Common.{◌∙◌, ap, arith, sym}
use Rattle.std.proofs.lemmas.Option.{get_or_from_slice_get, slice_get_within}
use Rattle.hd_basin.specs.Graph.{as_low}
use Rattle.hd_basin.proofs.FlatLists.{map-more, map-whole}
use Rattle.hd_basin.proofs.graph.push_lows.Goals as goal

pub numbers-preserved : goal.numbers-preserved
numbers-preserved c =
    let nodes = c.args.part.now.nodes in
    let node = c.node.result in
    map-more as_low c.args.lows.now c.numbers.lows c.push.new.self nodes c.numbers.number node c.as_low.result (slice_get_within nodes c.numbers.number node c.node.ensures)
    (c.as_low.ensures ∙ ap as_low (sym (get_or_from_slice_get nodes c.numbers.number node node c.node.ensures))) c.numbers.invariant c.in_ok-push.ensures.ok

pub returns : goal.returns
returns c = (let count = c.count-count.ensures in let past = c.numbers-test.false in c.numbers.invariant
    ∙ map-whole as_low c.args.lows.now c.args.part.now.nodes c.numbers.number (omega (arith, count, past)))
