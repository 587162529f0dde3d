use Rattle.std.proofs.Common.{◌-◌, ◌<◌, arith}
use Rattle.hd_map.specs.Map.{cell_count}
use Rattle.hd_steep.proofs.EndLinks.{led_on, past_more}
use Rattle.hd_steep.proofs.leading.lead_to_ends.Goals as goal

pub end_from-end-requires-clause-links : goal.end_from-end-requires-clause-links
end_from-end-requires-clause-links g c =
    led_on (g.G.Heights.map c.args.grid.now) g.S.Side.NAME c.args.pits.now c.loop-index.links c.loop-index.invariant.links (c.loop-index.index - 1)
    (omega (arith, c.loop-index-test.true, c.requires.count))

pub lead_to-requires-clause-links : goal.lead_to-requires-clause-links
lead_to-requires-clause-links g c =
    led_on (g.G.Heights.map c.args.grid.now) g.S.Side.NAME c.args.pits.now c.loop-index.links c.loop-index.invariant.links (c.loop-index.index - 1)
    (omega (arith, c.loop-index-test.true, c.requires.count))

pub loop-index-preserved : goal.loop-index-preserved
loop-index-preserved g c =
    let m = g.G.Heights.map c.args.grid.now in
    let links = c.loop-index.links in
    let k = c.loop-index.index - 1 in
    let before = c.loop-index.invariant in
    let long = before.links.whole in
    let point : k < cell_count m.size = omega (arith, c.loop-index-test.true, c.requires.count) in
    record {
      links = led_on m g.S.Side.NAME c.args.pits.now links before.links k point;
      led = past_more m g.S.Side.NAME links k _ (omega (arith, long, point)) (omega (arith, c.if-link-count.false, c.requires.count))
          (λ i from inside. before.led i (omega (arith, from, c.loop-index-test.true)) inside);
    }
