use Rattle.hd_map.specs.Encoding.{values_of}
use Rattle.hd_tiles.specs.Profile.{AllStay}
use Rattle.hd_tiles.proofs.change.first_change.Given as goal

abbrev pub invariant-loop-x : goal.invariant-loop-x
invariant-loop-x g l = AllStay (g.G.Heights.map l.grid) l.y (values_of g.L.Lane.code l.row) l.from l.x
