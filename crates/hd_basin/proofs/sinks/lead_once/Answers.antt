use Rattle.std.proofs.Common.{◌<◌, ◌*◌, inl, inr, arith}
use Rattle.hd_basin.proofs.AreLinks.{Takes, link_after, link_set}
use Rattle.hd_basin.proofs.sinks.lead_once.Goals as goal
use Rattle.hd_basin.proofs.sinks.lead_once.Goals.{then-link, else-link}

pub bounds-links-onward : goal.bounds-links-onward
bounds-links-onward g c =
    let links = c.args.links.now in
    let takes : Takes links c.args.place c.if-link.onward = elim c.if-link.branch [ then-link w ↦ inl (w.if-link.true, w.onward-is) | else-link w ↦ inr (w.if-link.false, w.onward-is) ] in
    let whole = c.requires.links.all.whole in
    let inside = c.requires.inside in
    let on = (link_after (g.G.Heights.map c.args._grid.now) g.S.Side.NAME c.args._tiling.side c.args._area links c.requires.links c.args.place c.if-link.onward
    (omega (arith, whole, inside)) takes).0 in
    omega (arith, on, whole)

pub returns : goal.returns
returns g c =
    let m = g.G.Heights.map c.args._grid.now in
    let links = c.args.links.now in
    let takes : Takes links c.args.place c.if-link.onward = elim c.if-link.branch [ then-link w ↦ inl (w.if-link.true, w.onward-is) | else-link w ↦ inr (w.if-link.false, w.onward-is) ] in
    let whole = c.requires.links.all.whole in
    let inside = c.requires.inside in
    let below : c.args.place < c.args._area.columns * c.args._area.rows = omega (arith, whole, inside) in
    link_set m g.S.Side.NAME c.args._tiling.side c.args._area links c.requires.links c.args.place _ below
    (link_after m g.S.Side.NAME c.args._tiling.side c.args._area links c.requires.links c.args.place c.if-link.onward below takes).1
