-- The cells that are read for a surface.
use Rattle.std.specs.Prelude.{List}
use Rattle.hd_map.specs.declared.cells.Cells.{Cells}
use Rattle.hd_map.specs.declared.types.Cell.{Cell}
use Rattle.hd_map.specs.declared.wide_cells.WideCells.{WideCells}
use Rattle.hd_map.specs.Packing.{as_it_is, over_least, kept_cells}

-- the cells, by index
abbrev pub cells_in : Cells → List Cell
cells_in c = kept_cells (over_least c.data_type) c.heights.items c.marks.items

-- those of heights of eight bytes
abbrev pub wide_cells_in : WideCells → List Cell
wide_cells_in c = kept_cells as_it_is c.heights.items c.marks.items
