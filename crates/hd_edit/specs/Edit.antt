-- The map after an edit that is no filter, or its first refusal.
use Rattle.std.specs.Prelude.{◌&&◌, not, Bool, true, false, ℤ, ◌+ℤ◌, nat_le, List, map, position, Option, Some, None, Result, Ok, Err, if◌then◌else◌}
use Rattle.std.specs.List.{range_with_len}
use Rattle.std.specs.Option.{option_map}
use Rattle.hd_map.specs.declared.types.Pos.{Pos}
use Rattle.hd_map.specs.declared.types.Size.{Size}
use Rattle.hd_map.specs.declared.types.DataType.{DataType}
use Rattle.hd_map.specs.declared.types.Cell.{Cell}
use Rattle.hd_map.specs.declared.types.Cell.TheVariants.{Height, Bad}
use Rattle.hd_map.specs.Map.{Map, cell_at, mask_at, cell_count, position_at, in_grid, in_range}
use Rattle.hd_map.specs.Sets.{with_cell}
use Rattle.hd_edit.specs.declared.edit.EditError.{EditError}
use Rattle.hd_edit.specs.declared.edit.EditError.TheVariants.{Outside, HeightRange, EmptyRect}

-- whether a cell is a height of the data type, or none
abbrev pub cell_in_range : DataType → Cell → Bool
cell_in_range type (Height z) = in_range type z
cell_in_range type Bad = true

-- whether a position lies in the rectangle of two corners
abbrev pub in_rectangle : Pos → Pos → Pos → Bool
in_rectangle from to at = (nat_le from.x at.x && nat_le at.x to.x) && (nat_le from.y at.y && nat_le at.y to.y)

-- by index what stands at each position of a grid
abbrev pub by_index : {X : Type 0} → Size → (Pos → X) → List X
by_index size f = map (λ k. f (position_at size k)) (range_with_len 0 (cell_count size))

-- the cell of a present point, this much higher; every other cell stays
abbrev pub raised : ℤ → Cell → Bool → Cell
raised delta (Height z) false = Height (z +ℤ delta)
raised delta (Height z) true = Height z
raised delta Bad masked = Bad

-- the cells once the present points of a rectangle are this much higher
abbrev pub raised_cells : Map → Pos → Pos → ℤ → List Cell
raised_cells m from to delta =
    by_index m.size (λ p. if in_rectangle from to p then raised delta (cell_at m p) (mask_at m p) else cell_at m p)

-- the masks once all points of a rectangle have this one
abbrev pub masks_with : Map → Pos → Pos → Bool → List Bool
masks_with m from to masked = by_index m.size (λ p. if in_rectangle from to p then masked else mask_at m p)

-- why two corners are refused: the first is not in the grid; else the second is not; else the
-- second has a lesser column or profile than the first
abbrev pub rectangle_refusal : Size → Pos → Pos → Option EditError
rectangle_refusal size from to =
    if in_grid size from then
    (if in_grid size to then
    (if nat_le from.x to.x && nat_le from.y to.y then None else Some EmptyRect)
    else Some (Outside to))
    else Some (Outside from)

-- why new cells of a map are refused: the first by index is not of the data type
abbrev pub height_refusal : Map → List Cell → Option EditError
height_refusal m cells =
    option_map (λ k. HeightRange (position_at m.size k)) (position (λ c. not (cell_in_range m.data_type c)) cells)

-- the outcome where there is no refusal
abbrev pub unless : Option EditError → Result Map EditError → Result Map EditError
unless None outcome = outcome
unless (Some refusal) outcome = Err refusal

-- the map with all its cells set, or why these are refused
abbrev pub all_cells_set : Map → List Cell → Result Map EditError
all_cells_set m cells = unless (height_refusal m cells) (Ok (record m { cells = cells }))

-- the map with a height set at a position, or why it is refused
abbrev pub height_set : Map → Pos → ℤ → Result Map EditError
height_set m at z =
    if in_grid m.size at then
    (if in_range m.data_type z then Ok (with_cell m at (Height z)) else Err (HeightRange at))
    else Err (Outside at)

-- the map with no height at a position
abbrev pub height_taken : Map → Pos → Result Map EditError
height_taken m at = if in_grid m.size at then Ok (with_cell m at Bad) else Err (Outside at)

-- the map with the present points of a rectangle this much higher
abbrev pub heights_raised : Map → Pos → Pos → ℤ → Result Map EditError
heights_raised m from to delta =
    unless (rectangle_refusal m.size from to) (all_cells_set m (raised_cells m from to delta))

-- the map with the masks of a rectangle set
abbrev pub masks_set : Map → Pos → Pos → Bool → Result Map EditError
masks_set m from to masked =
    unless (rectangle_refusal m.size from to) (Ok (record m { masks = masks_with m from to masked }))
