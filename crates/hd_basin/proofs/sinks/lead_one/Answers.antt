use Rattle.std.proofs.Common.{arith}
use Rattle.hd_basin.proofs.AreLinks.{led-set, led-none}
use Rattle.hd_basin.proofs.sinks.lead_one.Goals as goal

pub returns-then-link : goal.returns-then-link
returns-then-link g c =
    let whole = c.requires.before.linked.all.whole in
    let inside = c.requires.inside in
    led-set (g.G.Heights.map c.args.grid.now) g.S.Side.NAME c.args.tiling.side c.args.area c.args.place c.args.links.now c.requires.before
    (omega (arith, whole, inside)) c.sink_from.result c.sink_from.ensures

pub returns-else-link : goal.returns-else-link
returns-else-link g c =
    let whole = c.requires.before.linked.all.whole in
    let inside = c.requires.inside in
    led-none (g.G.Heights.map c.args.grid.now) g.S.Side.NAME c.args.tiling.side c.args.area c.args.place c.args.links.now c.requires.before (omega (arith, whole, inside)) c.if-link.false
