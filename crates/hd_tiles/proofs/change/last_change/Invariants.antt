use Rattle.std.proofs.Common.{◌-◌}
use Rattle.hd_map.specs.Encoding.{values_of}
use Rattle.hd_tiles.specs.Profile.{AllStay}
use Rattle.hd_tiles.proofs.change.last_change.Given as goal

abbrev pub invariant-loop-passed : goal.invariant-loop-passed
invariant-loop-passed g l = AllStay (g.G.Heights.map l.grid) l.y (values_of g.L.Lane.code l.row) (l.to - l.passed) l.to
