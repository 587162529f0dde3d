use Rattle.hd_morph.proofs.Listed.{CellsBefore}
use Rattle.hd_morph.proofs.cells.cells_with.Given as goal

abbrev pub invariant-loop-index : goal.invariant-loop-index
invariant-loop-index g l = CellsBefore (g.G.Heights.map l.grid) l.heights l.index l.at l.cells
