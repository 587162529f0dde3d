use Rattle.hd_map.specs.Layouts.{wide_map}
use Rattle.hd_map.proofs.Filled.{IsFilled}
use Rattle.hd_map.proofs.wide.WideHeights.fill_heights.Given as goal

abbrev pub invariant-loop-x : goal.invariant-loop-x
invariant-loop-x g l = IsFilled g.L.Lane.code (wide_map l.self) l.y l.x l.all l.row
