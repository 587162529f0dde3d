use Rattle.std.proofs.Common.{arith}
use Rattle.hd_steep.proofs.EndLinks.{leads_on, way_falls}
use Rattle.hd_steep.proofs.leading.end_from.Goals as goal

pub walk-smaller : goal.walk-smaller
walk-smaller g c =
    way_falls (g.G.Heights.map c.args._grid.now) g.S.Side.NAME c.args._pits.now c.args.links.now c.requires.links c.walk.here (g.met.G.Heights.whole c.args._grid.now)
    (omega (arith, c.walk-test.true, c.requires.count))

pub walk-preserved : goal.walk-preserved
walk-preserved g c = record {
  inside = c.requires.links.inside c.walk.here c.walk.invariant.inside;
  leads = leads_on (g.G.Heights.map c.args._grid.now) g.S.Side.NAME c.args._pits.now c.args.links.now c.requires.links c.args.start c.walk.here c.walk.invariant.inside c.walk.invariant.leads;
}
