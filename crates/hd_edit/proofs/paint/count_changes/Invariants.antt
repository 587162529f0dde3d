use Rattle.std.proofs.Common.{◌-◌, ◌+◌}
use Rattle.hd_map.specs.Map.{place_of}
use Rattle.hd_edit.proofs.Rectangles.{StandsAt}
use Rattle.hd_edit.proofs.CountedChanges.{Counted}
use Rattle.hd_edit.proofs.paint.count_changes.Given as goal

abbrev pub invariant-loop-at : goal.invariant-loop-at
invariant-loop-at g l = record {
  stands : StandsAt l.from l.to l.at;
  counted : let m = g.G.Heights.map l.grid in Counted m l.from l.to l.stroke (place_of m.size l.at) l.count;
}

abbrev pub decreases-loop-at : goal.decreases-loop-at
decreases-loop-at g l = let s = (g.G.Heights.map l.grid).size in place_of s l.to + s.points + 1 - place_of s l.at
