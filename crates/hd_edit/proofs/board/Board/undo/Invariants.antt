use Rattle.std.proofs.Common.{◌≡◌, ◌≤◌, ◌+◌, ◌-◌, ◌*◌, [], ◌∷◌, ◌++◌, length, take}
use Rattle.hd_edit.proofs.board.Board.undo.Given as goal

abbrev pub invariant-loop-step : goal.invariant-loop-step
invariant-loop-step g l = record {
  history : l.self.earlier ++ g.G.Heights.map l.self.grid ∷ [] ≡ take (length l.initial.self.earlier + 1 - l._step) (l.initial.self.earlier ++ g.G.Heights.map l.initial.self.grid ∷ []);
  len : length l.self.earlier + l._step ≡ length l.initial.self.earlier;
  elements : l.self.elements ≡ l.initial.self.elements;
  origin : g.G.Grid.comes_from l.initial.self.grid l.self.grid;
  rises : g.G.Grid.changes l.initial.self.grid ≤ g.G.Grid.changes l.self.grid;
  few : g.G.Grid.changes l.self.grid ≤ g.G.Grid.changes l.initial.self.grid + l._step * 4194304;
}
