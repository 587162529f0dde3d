use Rattle.hd_map.specs.Lanes.{AreHeightsTo}
use Rattle.hd_map.proofs.grid.Heights.fill_heights.Given as goal

abbrev pub invariant-loop-x : goal.invariant-loop-x
invariant-loop-x g l = AreHeightsTo g.L.Lane.code (g.Self.Heights.map l.self) l.y l.x l.row
