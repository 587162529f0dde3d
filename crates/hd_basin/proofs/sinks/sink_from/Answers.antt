use Rattle.std.proofs.Common.{arith}
use Rattle.hd_basin.proofs.AreLinks.{point_of, way_start, way_more, way_end}
use Rattle.hd_basin.proofs.sinks.sink_from.Goals as goal

pub walk-init : goal.walk-init
walk-init g c =
    let whole = c.requires.links.all.whole in
    let inside = c.requires.inside in
    way_start (g.G.Heights.map c.args._grid.now) g.S.Side.NAME c.args._tiling.side c.args._area c.args.links.now c.requires.links c.args.start (omega (arith, whole, inside)) c.requires.point

pub walk-smaller : goal.walk-smaller
walk-smaller g c =
    (way_more (g.G.Heights.map c.args._grid.now) g.S.Side.NAME c.args._tiling.side c.args._area c.args.links.now c.requires.links
    (g.met.G.Heights.whole c.args._grid.now) c.args.start c.walk.here c.walk.invariant c.if-onward-here.false).1

pub walk-preserved : goal.walk-preserved
walk-preserved g c =
    (way_more (g.G.Heights.map c.args._grid.now) g.S.Side.NAME c.args._tiling.side c.args._area c.args.links.now c.requires.links
    (g.met.G.Heights.whole c.args._grid.now) c.args.start c.walk.here c.walk.invariant c.if-onward-here.false).0

pub returns-then-onward-here : goal.returns-then-onward-here
returns-then-onward-here g c =
    let m = g.G.Heights.map c.args._grid.now in
    let t = c.args._tiling.side in
    let whole = c.requires.links.all.whole in
    let inside = c.requires.inside in
    way_end m g.S.Side.NAME t c.args._area c.args.links.now c.requires.links c.args.start c.walk.here c.walk.invariant c.if-onward-here.true
    (point_of m g.S.Side.NAME t c.args._area c.args.links.now c.requires.links c.args.start (omega (arith, whole, inside)) c.requires.point)
