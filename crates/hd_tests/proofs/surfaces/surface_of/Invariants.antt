use Rattle.std.proofs.Common.{◌≡◌, ◌++◌, drop}
use Rattle.hd_map.specs.Cells.{cells_in}
use Rattle.hd_tests.proofs.surfaces.surface_of.Given as goal

abbrev pub invariant-cells : goal.invariant-cells
invariant-cells l = record {
  made : cells_in l.taken ++ drop l.cell-index l.cells ≡ l.cells;
  data_type : l.taken.data_type ≡ l.fn.data_type;
}
