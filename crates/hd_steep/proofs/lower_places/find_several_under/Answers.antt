use Rattle.std.proofs.Common.{arith}
use Rattle.std.specs.Bool.{OnFalse}
use Rattle.hd_steep.specs.LowerPlaces.{lower_round}
use Rattle.hd_steep.specs.Ring.{marks_of, IsOneAtMost}
use Rattle.hd_steep.proofs.Marks.{marks_more}
use Rattle.hd_steep.proofs.lower_places.find_several_under.Goals as goal

pub loop-x-preserved : goal.loop-x-preserved
loop-x-preserved c =
    let told = rw (
      c.as_slice-north.ensures.value,
      c.as_slice-north_east.ensures.value,
      c.as_slice-east.ensures.value,
      c.as_slice-south_east.ensures.value,
      c.as_slice-south.ensures.value,
      c.as_slice-south_west.ensures.value,
      c.as_slice-west.ensures.value,
      c.as_slice-north_west.ensures.value,
    ) at c.marked.ensures in
    marks_more (λ k b. OnFalse b (IsOneAtMost (marks_of c.args.adjacency (lower_round c.args.lower.now k)))) c.loop-x.several c.loop-x.x c.are_several.result
    (omega arith) c.loop-x.invariant (rw told at c.are_several.ensures)
