-- How a surface keeps its points: as heights, in one of two layouts, and marks.
use Rattle.std.specs.Prelude.{◌+ℤ◌, ◌*ℤ◌, ℕ, ℤ, pos, Bool, true, false, List, map, if◌then◌else◌}
use Rattle.std.specs.Simd.Lanes.{zip2}
use Rattle.hd_map.specs.declared.types.Adjacency.{Adjacency}
use Rattle.hd_map.specs.declared.types.Size.{Size}
use Rattle.hd_map.specs.declared.types.DataType.{DataType}
use Rattle.hd_map.specs.declared.types.Cell.{Cell}
use Rattle.hd_map.specs.declared.types.Cell.TheVariants.{Height, Bad}
use Rattle.hd_map.specs.declared.mark.Mark.{Mark}
use Rattle.hd_map.specs.declared.mark.Mark.TheVariants.{Shown, Masked, Unmeasured, MaskedUnmeasured}
use Rattle.hd_map.specs.Map.{Map, least_height}

-- whether a mark says that the point is measured
abbrev pub measures : Mark → Bool
measures Shown = true
measures Masked = true
measures Unmeasured = false
measures MaskedUnmeasured = false

-- whether a mark says that the point is masked
abbrev pub masks : Mark → Bool
masks Shown = false
masks Masked = true
masks Unmeasured = false
masks MaskedUnmeasured = true

-- in four bytes, the height that is kept as how far it is over the least one of the data type
abbrev pub over_least : DataType → ℕ → ℤ
over_least t over = least_height t +ℤ pos over

-- in eight bytes, the height that is kept as it is
abbrev pub as_it_is : ℤ → ℤ
as_it_is height = height

-- the cell that is kept as a number and a mark, where a layout says which height the number is
abbrev pub cell_from : {H : Type 0} → (H → ℤ) → H → Mark → Cell
cell_from height number mark = if measures mark then Height (height number) else Bad

-- the cells that are kept as these numbers and marks
abbrev pub kept_cells : {H : Type 0} → (H → ℤ) → List H → List Mark → List Cell
kept_cells height numbers marks = zip2 (cell_from height) numbers marks

-- the map that is kept as these numbers and marks
abbrev pub kept_map : {H : Type 0} → (H → ℤ) → Size → DataType → List H → List Mark → Adjacency → Map
kept_map height s t numbers marks adjacency = record { size = s; data_type = t; cells = kept_cells height numbers marks; masks = map masks marks; adjacency = adjacency }

-- the cell of so many times a height
abbrev pub multiplied : ℤ → Cell → Cell
multiplied factor (Height h) = Height (h *ℤ factor)
multiplied factor Bad = Bad
