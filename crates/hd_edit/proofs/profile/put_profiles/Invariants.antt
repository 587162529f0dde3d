use Rattle.std.proofs.Common.{◌≡◌, ◌≤◌, ◌+◌, length}
use Rattle.hd_map.specs.Encoding.{values_of}
use Rattle.hd_edit.proofs.FilteredCells.{Noted}
use Rattle.hd_edit.proofs.profile.put_profiles.Given as goal

abbrev pub invariant-loop-y : goal.invariant-loop-y
invariant-loop-y g l = record {
  noted : Noted (g.G.Heights.map l.initial.grid) (values_of g.L.Lane.code l.numbers) l.y (g.G.Heights.map l.grid) l.notes.changes;
  row : length l.row ≡ length l.initial.row;
  room : l.notes.room ≡ l.initial.notes.room;
  origin : g.G.Grid.comes_from l.initial.grid l.grid;
  rises : g.G.Grid.changes l.initial.grid ≤ g.G.Grid.changes l.grid;
  few : g.G.Grid.changes l.grid ≤ g.G.Grid.changes l.initial.grid + l.y;
}
