use Rattle.hd_map.specs.Encoding.{values_of}
use Rattle.hd_map.specs.Packing.{over_least}
use Rattle.hd_map.proofs.HeightsSet.{AreSetTo}
use Rattle.hd_map.proofs.narrow.NarrowGrid.set_heights.Given as goal

abbrev pub invariant-loop-x : goal.invariant-loop-x
invariant-loop-x g l =
    let s = l.fn.self in
    AreSetTo (over_least s.data_type) s.size s.data_type s.heights.items s.marks.items s.adjacency l.y (values_of g.L.Lane.code l.row) l.x l.heights l.marks
