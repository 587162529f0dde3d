use Rattle.std.proofs.Common.{◌≡◌, ◌≤◌, ◌+◌, ◌*◌}
use Rattle.hd_map.specs.Encoding.{values_of}
use Rattle.hd_edit.proofs.FilteredCells.{partly_new}
use Rattle.hd_edit.proofs.profile.set_profiles.Given as goal

abbrev pub invariant-loop-y : goal.invariant-loop-y
invariant-loop-y g l = let m = g.G.Heights.map l.initial.grid in record {
  map : g.G.Heights.map l.grid ≡ partly_new m (values_of g.L.Lane.code l.numbers) (l.y * m.size.points);
  origin : g.G.Grid.comes_from l.initial.grid l.grid;
  rises : g.G.Grid.changes l.initial.grid ≤ g.G.Grid.changes l.grid;
  few : g.G.Grid.changes l.grid ≤ g.G.Grid.changes l.initial.grid + l.y;
}
