use Rattle.hd_steep.specs.Ends.{AreEndLinks}
use Rattle.hd_steep.proofs.leading.sweep.Given as goal

abbrev pub invariant-loop-index : goal.invariant-loop-index
invariant-loop-index g l = AreEndLinks (g.G.Heights.map l._grid) g.S.Side.NAME l._pits l.links
