use Rattle.hd_map.specs.Encoding.{values_of}
use Rattle.hd_map.specs.Packing.{as_it_is}
use Rattle.hd_map.proofs.HeightsSet.{AreSetTo}
use Rattle.hd_map.proofs.wide.WideGrid.set_heights.Given as goal

abbrev pub invariant-loop-x : goal.invariant-loop-x
invariant-loop-x g l =
    let s = l.fn.self in
    AreSetTo as_it_is s.size s.data_type s.heights.items s.marks.items s.adjacency l.y (values_of g.L.Lane.code l.row) l.x l.heights l.marks
