use Rattle.hd_map.specs.Layouts.{narrow_map}
use Rattle.hd_map.proofs.Filled.{IsFilled}
use Rattle.hd_map.proofs.narrow.NarrowHeights.fill_heights.Given as goal

abbrev pub invariant-loop-x : goal.invariant-loop-x
invariant-loop-x g l = IsFilled g.L.Lane.code (narrow_map l.self) l.y l.x l.all l.row
