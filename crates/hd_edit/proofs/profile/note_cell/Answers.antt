use Rattle.hd_edit.proofs.Changes.{IsCellOf-cell_at}
use Rattle.hd_edit.proofs.profile.note_cell.Goals as goal

pub was_of-was-requires : goal.was_of-was-requires
was_of-was-requires g c = rw (c.data_type.ensures, c.cell-cell.ensures) (IsCellOf-cell_at (g.G.Heights.map c.args.grid.now) (g.met.G.Heights.whole c.args.grid.now) c.args.at c.requires.in_grid)
