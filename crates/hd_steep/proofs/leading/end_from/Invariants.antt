use Rattle.std.proofs.Common.{◌<◌, length}
use Rattle.hd_steep.proofs.EndLinks.{LeadsOn, way_depth}
use Rattle.hd_steep.proofs.leading.end_from.Given as goal

abbrev pub invariant-walk : goal.invariant-walk
invariant-walk g l = record {
  inside : l.here < length l.links;
  leads : LeadsOn (g.G.Heights.map l._grid) g.S.Side.NAME l._pits l.start l.here;
}

abbrev pub decreases-walk : goal.decreases-walk
decreases-walk g l = way_depth (g.G.Heights.map l._grid) g.S.Side.NAME l.here
