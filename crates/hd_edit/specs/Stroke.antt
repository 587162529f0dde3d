-- What a stroke makes of the points of a rectangle.
use Rattle.std.specs.Prelude.{◌≡◌, ◌≢◌, ◌≤◌, ◌+◌, ◌&&◌, not, Bool, true, false, ℕ, zero, suc, nat_lt, Option, Some, None, Result, Ok, slice_set, if◌then◌else◌}
use Rattle.std.specs.Ordering.{int_eq}
use Rattle.hd_map.specs.declared.types.Pos.{Pos}
use Rattle.hd_map.specs.declared.types.Size.{Size}
use Rattle.hd_map.specs.declared.types.Cell.{Cell}
use Rattle.hd_map.specs.declared.types.Cell.TheVariants.{Height, Bad}
use Rattle.hd_map.specs.declared.types.DataType.{DataType}
use Rattle.hd_map.specs.Map.{Map, InGrid, IsCellOf, cell_at, mask_at, place_of, position_at, cell_count}
use Rattle.hd_edit.specs.declared.stroke.Stroke.{Stroke}
use Rattle.hd_edit.specs.declared.stroke.Stroke.TheVariants as stroke
use Rattle.hd_edit.specs.declared.stroke.Effect.{Effect}
use Rattle.hd_edit.specs.declared.stroke.Effect.TheVariants as effect
use Rattle.hd_edit.specs.declared.edit.Edit.{Edit}
use Rattle.hd_edit.specs.declared.edit.Edit.TheVariants as edit
use Rattle.hd_edit.specs.declared.edit.EditError.{EditError}
use Rattle.hd_edit.specs.Edit.{raised, in_rectangle, by_index, unless, rectangle_refusal, height_refusal}

-- what a stroke makes of a cell
abbrev pub cell_after : Stroke → Cell → Bool → Cell
cell_after (stroke.Put new) cell masked = new
cell_after (stroke.Raise delta) cell masked = raised delta cell masked
cell_after (stroke.Mask new) cell masked = cell

-- what a stroke makes of a mask
abbrev pub mask_after : Stroke → Bool → Bool
mask_after (stroke.Put new) masked = masked
mask_after (stroke.Raise delta) masked = masked
mask_after (stroke.Mask new) masked = new

-- whether two cells are one
abbrev pub same_cell : Cell → Cell → Bool
same_cell (Height a) (Height b) = int_eq a b
same_cell (Height a) Bad = false
same_cell Bad (Height b) = false
same_cell Bad Bad = true

-- whether two masks are one
abbrev pub same_mask : Bool → Bool → Bool
same_mask true b = b
same_mask false b = not b

-- whether a stroke changes a point
abbrev pub changes : Stroke → Cell → Bool → Bool
changes s cell masked =
    not (same_cell (cell_after s cell masked) cell && same_mask (mask_after s masked) masked)

-- what sets a cell to another one of the data type
abbrev pub SetsTo : DataType → Cell → Cell → Effect → Type 0
SetsTo type cell new effect.Nothing = new ≡ cell
SetsTo type cell new (effect.Cell other) = (other ≡ new) × IsCellOf type new × (new ≢ cell)
SetsTo type cell new (effect.Mask masked) = ⊥

-- what a stroke does to a point: nothing, or it sets the cell or the mask
abbrev pub HasEffect : DataType → Stroke → Cell → Bool → Effect → Type 0
HasEffect type s cell masked effect.Nothing =
    (cell_after s cell masked ≡ cell) × (mask_after s masked ≡ masked)
HasEffect type s cell masked (effect.Cell new) =
    (new ≡ cell_after s cell masked) × IsCellOf type new × (new ≢ cell) × (mask_after s masked ≡ masked)
HasEffect type s cell masked (effect.Mask new) =
    (new ≡ mask_after s masked) × (new ≢ masked) × (cell_after s cell masked ≡ cell)

-- two corners of a rectangle in the grid
pub record IsRectangle (size : Size) (from to : Pos) : Type 0 where
  pub first : InGrid size from
  pub second : InGrid size to
  pub columns : from.x ≤ to.x
  pub profiles : from.y ≤ to.y

-- the position after one in a rectangle, profile by profile; past its end it is in the profile
-- below
abbrev pub next_in : Pos → Pos → Pos → Pos
next_in from to at =
    if nat_lt at.x to.x then record { x = at.x + 1; y = at.y } else record { x = from.x; y = at.y + 1 }

-- the cell and the mask at a position once a rectangle is stroked
abbrev pub new_cell : Map → Pos → Pos → Stroke → Pos → Cell
new_cell m from to s p =
    if in_rectangle from to p then cell_after s (cell_at m p) (mask_at m p) else cell_at m p

abbrev pub new_mask : Map → Pos → Pos → Stroke → Pos → Bool
new_mask m from to s p = if in_rectangle from to p then mask_after s (mask_at m p) else mask_at m p

-- the map once a rectangle is stroked
abbrev pub stroked : Map → Pos → Pos → Stroke → Map
stroked m from to s = record m {
  cells = by_index m.size (new_cell m from to s);
  masks = by_index m.size (new_mask m from to s);
}

-- the map once a point is stroked
abbrev pub stroked_at : Stroke → Pos → Map → Map
stroked_at s at m = record m {
  cells = slice_set m.cells (place_of m.size at) (cell_after s (cell_at m at) (mask_at m at));
  masks = slice_set m.masks (place_of m.size at) (mask_after s (mask_at m at));
}

-- whether a stroke of the rectangle changes the point at a position, and at an index
abbrev pub changes_to : Map → Pos → Pos → Stroke → Pos → Bool
changes_to m from to s p = in_rectangle from to p && changes s (cell_at m p) (mask_at m p)

abbrev pub changes_at : Map → Pos → Pos → Stroke → ℕ → Bool
changes_at m from to s k = changes_to m from to s (position_at m.size k)

-- 1 where a stroke changes the point at a position, and 0 where it does not
abbrev pub one_if_changed : Stroke → Map → Pos → ℕ
one_if_changed s m at = if changes s (cell_at m at) (mask_at m at) then 1 else 0

-- how many numbers below n pass a test
abbrev pub count_below : (ℕ → Bool) → ℕ → ℕ
count_below p zero = 0
count_below p (suc n) = count_below p n + (if p n then 1 else 0)

-- how many points a stroke of the rectangle changes
abbrev pub changed_points : Map → Pos → Pos → Stroke → ℕ
changed_points m from to s = count_below (changes_at m from to s) (cell_count m.size)

-- each cell of the stroked rectangle is of the data type
abbrev pub IsStrokeOf : Map → Pos → Pos → Stroke → Type 0
IsStrokeOf m from to s = (p : Pos) → InGrid m.size p → IsCellOf m.data_type (new_cell m from to s p)

-- the corners of an edit's rectangle and its stroke; a filter has none
abbrev pub stroke_parts : Edit → Option (Pos × Pos × Stroke)
stroke_parts (edit.Set at z) = Some (at, at, stroke.Put (Height z))
stroke_parts (edit.Bad at) = Some (at, at, stroke.Put Bad)
stroke_parts (edit.Add from to delta) = Some (from, to, stroke.Raise delta)
stroke_parts (edit.Mask from to) = Some (from, to, stroke.Mask true)
stroke_parts (edit.Unmask from to) = Some (from, to, stroke.Mask false)
stroke_parts (edit.Dilate name) = None
stroke_parts (edit.Erode name) = None
stroke_parts (edit.Open name) = None
stroke_parts (edit.Close name) = None

-- the outcome of a stroke of a rectangle
abbrev pub outcome : Map → Pos → Pos → Stroke → Result Map EditError
outcome m from to s =
    unless (rectangle_refusal m.size from to)
    (unless (height_refusal m (stroked m from to s).cells) (Ok (stroked m from to s)))

abbrev pub IsStroked : Map → Pos → Pos → Stroke → Result Map EditError → Type 0
IsStroked m from to s result = result ≡ outcome m from to s
