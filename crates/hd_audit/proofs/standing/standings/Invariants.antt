use Rattle.hd_map.proofs.PositionOrder.{IsAt}
use Rattle.hd_audit.specs.Standings.{AreStandingTo}
use Rattle.hd_audit.proofs.standing.standings.Given as goal

abbrev pub invariant-loop-index : goal.invariant-loop-index
invariant-loop-index g l = let m = g.G.Heights.map l.grid in record {
  at : IsAt m.size l.index l.at;
  made : AreStandingTo m l.index l.standings.items;
}
