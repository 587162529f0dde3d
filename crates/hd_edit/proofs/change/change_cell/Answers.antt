use Rattle.std.proofs.Common.{◌≡◌, ◌∙◌, ap}
use Rattle.std.proofs.lemmas.List.Elements.{All-push}
use Rattle.hd_map.specs.declared.types.Size.{Size}
use Rattle.hd_map.specs.Map.{place_of}
use Rattle.hd_edit.specs.Change.{IsChange}
use Rattle.hd_edit.proofs.Changes.{before_changes-cell, IsWasOf-cell, IsCellOf-cell_at}
use Rattle.hd_edit.proofs.change.change_cell.Goals as goal

pub was_of-was-requires : goal.was_of-was-requires
was_of-was-requires g c = rw (c.data_type.ensures, c.cell-cell.ensures) (IsCellOf-cell_at (g.G.Heights.map c.args.grid.now) (g.met.G.Heights.whole c.args.grid.now) c.args.at c.requires.in_grid)

pub returns-clause-before : goal.returns-clause-before
returns-clause-before g c =
    let m = g.G.Heights.map c.args.grid.now in
    let place : c.index_of-index.result ≡ place_of m.size c.args.at = c.index_of-index.ensures.value ∙ ap (λ (s : Size). place_of s c.args.at) c.size.ensures in
    before_changes-cell m (g.G.Heights.map c.put_cell.new.grid) c.args.notes.now.changes c.push.new.self.changes c.args.at c.index_of-index.result c.cell-cell.result c.args.new c.was_of-was.result
    c.push.ensures.changes place (rw c.data_type.ensures at c.was_of-was.ensures) c.cell-cell.ensures c.put_cell.ensures.map

pub returns-clause-notes : goal.returns-clause-notes
returns-clause-notes g c =
    let m = g.G.Heights.map c.args.grid.now in
    let whole = g.met.G.Heights.whole c.args.grid.now in
    rw c.push.ensures.changes (All-push (IsChange m) c.args.notes.now.changes (record { index = c.index_of-index.result; was = c.was_of-was.result }) c.requires.notes (record {
      inside = rw (← c.size.ensures) c.index_of-index.ensures.in_map;
      height = IsWasOf-cell m.data_type c.was_of-was.result c.cell-cell.result (rw c.data_type.ensures at c.was_of-was.ensures)
          (rw c.cell-cell.ensures (IsCellOf-cell_at m whole c.args.at c.requires.in_grid));
    }))
