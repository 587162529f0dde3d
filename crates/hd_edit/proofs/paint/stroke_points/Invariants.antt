use Rattle.std.proofs.Common.{◌≡◌, ◌≤◌, ◌-◌, ◌+◌, length}
use Rattle.hd_map.specs.Map.{place_of}
use Rattle.hd_edit.proofs.Rectangles.{StandsAt}
use Rattle.hd_edit.proofs.NotedStrokes.{Drawn}
use Rattle.hd_edit.proofs.paint.stroke_points.Given as goal

abbrev pub invariant-loop-at : goal.invariant-loop-at
invariant-loop-at g l = record {
  stands : StandsAt l.from l.to l.at;
  drawn : let m = g.G.Heights.map l.initial.grid in Drawn m l.from l.to l.stroke (place_of m.size l.at) (g.G.Heights.map l.grid) l.notes.changes;
  room : l.notes.room ≡ l.count;
  origin : g.G.Grid.comes_from l.initial.grid l.grid;
  rises : g.G.Grid.changes l.initial.grid ≤ g.G.Grid.changes l.grid;
  few : g.G.Grid.changes l.grid ≤ g.G.Grid.changes l.initial.grid + length l.notes.changes;
}

abbrev pub decreases-loop-at : goal.decreases-loop-at
decreases-loop-at g l = let s = (g.G.Heights.map l.initial.grid).size in place_of s l.to + s.points + 1 - place_of s l.at
