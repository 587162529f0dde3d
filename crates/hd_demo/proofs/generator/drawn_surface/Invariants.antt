use Rattle.std.proofs.Common.{◌≡◌, ◌≤◌}
use Rattle.hd_map.specs.Cells.{cells_in}
use Rattle.hd_map.specs.declared.types.DataType.TheVariants.{U16}
use Rattle.hd_demo.specs.Generator.{drawn, drawn_cells}
use Rattle.hd_demo.proofs.generator.drawn_surface.Given as goal

-- the cells so far
abbrev pub invariant-cells : goal.invariant-cells
invariant-cells l = record {
  data_type : l.cells.data_type ≡ U16;
  cells : cells_in l.cells ≡ drawn_cells l.fn.draws.last l.counter;
  last : l.draws.last ≡ drawn l.fn.draws.last l.counter;
  few : l.counter ≤ l.count;
}
