use Rattle.hd_survey.specs.Tallies.{AreTallies}
use Rattle.hd_map.proofs.PositionOrder.{IsAt}
use Rattle.hd_survey.proofs.tallies.tally_points.Given as goal

-- the tallies of the points so far
abbrev pub invariant-points : goal.invariant-points
invariant-points g l = let m = g.G.Heights.map l.grid in record {
  tallies : AreTallies m l.regions l.index l.tallies.items;
  at : IsAt m.size l.index l.at;
}
