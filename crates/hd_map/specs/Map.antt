-- The map that a grid is seen as, and its present points.
use Rattle.std.specs.Prelude.{◌≡◌, ◌<◌, ◌≤◌, ◌≤ℤ◌, ◌<ℤ◌, ◌+ℤ◌, ◌+◌, ◌*◌, ◌/◌, ◌%◌, ◌&&◌, ℕ, ℤ, pos, negsuc, nat_lt, int_le, Bool, true, false, List, length, slice_index_or, Option, Some, None}
use Rattle.hd_map.specs.declared.types.Pos.{Pos}
use Rattle.hd_map.specs.declared.types.Size.{Size}
use Rattle.hd_map.specs.declared.types.Cell.{Cell}
use Rattle.hd_map.specs.declared.types.Cell.TheVariants.{Height, Bad}
use Rattle.hd_map.specs.declared.types.Adjacency.{Adjacency}
use Rattle.hd_map.specs.declared.types.DataType.{DataType}
use Rattle.hd_map.specs.declared.types.DataType.TheVariants.{U8, U16, U32, I8, I16, I32, Single, Double}

-- a sampled surface and a setting: its size, the type of its heights, its cells and masks by index, and which
-- points are neighbours
pub record Map : Type 0 where
  pub size : Size
  pub data_type : DataType
  pub cells : List Cell
  pub masks : List Bool
  pub adjacency : Adjacency

-- how many cells a map of this size has
abbrev pub cell_count : Size → ℕ
cell_count s = s.profiles * s.points

-- the position lies in a grid of this size
pub record InGrid (s : Size) (p : Pos) : Type 0 where
  pub column : p.x < s.points
  pub profile : p.y < s.profiles

-- the index of a position in the lists of a map
abbrev pub place_of : Size → Pos → ℕ
place_of s p = p.y * s.points + p.x

-- the position of an index
abbrev pub position_at : Size → ℕ → Pos
position_at s k = record { x = k % s.points; y = k / s.points }

-- whether a position lies in a grid of this size
abbrev pub in_grid : Size → Pos → Bool
in_grid s p = nat_lt p.x s.points && nat_lt p.y s.profiles

-- the least height of a data type
abbrev pub least_height : DataType → ℤ
least_height U8 = pos 0
least_height U16 = pos 0
least_height U32 = pos 0
least_height I8 = negsuc 127
least_height I16 = negsuc 32767
least_height I32 = negsuc 2147483647
least_height (Single places) = negsuc 9007199254740991
least_height (Double places) = negsuc 9007199254740991

-- the greatest height of a data type
abbrev pub greatest_height : DataType → ℤ
greatest_height U8 = pos 255
greatest_height U16 = pos 65535
greatest_height U32 = pos 4294967295
greatest_height I8 = pos 127
greatest_height I16 = pos 32767
greatest_height I32 = pos 2147483647
greatest_height (Single places) = pos 9007199254740992
greatest_height (Double places) = pos 9007199254740992

-- the code of a data type (DataType of ISO 25178-71)
abbrev pub code_of : DataType → ℕ
code_of U8 = 0
code_of U16 = 1
code_of U32 = 2
code_of I8 = 4
code_of I16 = 5
code_of I32 = 6
code_of (Single places) = 3
code_of (Double places) = 7

-- how many decimal places the heights of a data type have
abbrev pub places_of : DataType → ℕ
places_of U8 = 0
places_of U16 = 0
places_of U32 = 0
places_of I8 = 0
places_of I16 = 0
places_of I32 = 0
places_of (Single places) = places
places_of (Double places) = places

-- the most decimal places of a map's heights
abbrev pub most_places : ℕ
most_places = 18

-- how many heights four bytes can tell apart
abbrev pub four_bytes : ℕ
four_bytes = 4294967296

-- four bytes hold how far each height of the data type is over the least one
abbrev pub IsNarrow : DataType → Type 0
IsNarrow t = greatest_height t <ℤ (least_height t +ℤ pos four_bytes)

-- whether a height is of the data type
abbrev pub in_range : DataType → ℤ → Bool
in_range t h = int_le (least_height t) h && int_le h (greatest_height t)

-- a height of the type, or none
abbrev pub IsCellOf : DataType → Cell → Type 0
IsCellOf t c = (h : ℤ) → c ≡ Height h → (least_height t ≤ℤ h) × (h ≤ℤ greatest_height t)

-- the most points of a profile, and the most profiles
abbrev pub longest_side : ℕ
longest_side = 65535

-- the most cells of a map
abbrev pub most_cells : ℕ
most_cells = 4194304

-- the limits of a map's size
pub record IsSize (s : Size) : Type 0 where
  pub some_points : 1 ≤ s.points
  pub points : s.points ≤ longest_side
  pub some_profiles : 1 ≤ s.profiles
  pub profiles : s.profiles ≤ longest_side
  pub cells : s.profiles * s.points ≤ most_cells

-- each cell is of the data type
abbrev pub AreCellsOf : DataType → List Cell → Type 0
AreCellsOf t cells = (k : ℕ) → k < length cells → IsCellOf t (slice_index_or cells k Bad)

-- the size and the places are within the limits, the lists are of that size, and the heights are of the type
pub record IsMap (m : Map) : Type 0 where
  pub size : IsSize m.size
  pub places : places_of m.data_type ≤ most_places
  pub cells : length m.cells ≡ cell_count m.size
  pub masks : length m.masks ≡ cell_count m.size
  pub heights : AreCellsOf m.data_type m.cells

-- the cell at a position
abbrev pub cell_at : Map → Pos → Cell
cell_at m p = slice_index_or m.cells (place_of m.size p) Bad

-- whether the position is masked
abbrev pub mask_at : Map → Pos → Bool
mask_at m p = slice_index_or m.masks (place_of m.size p) false

-- the height of a cell that is measured and not masked
abbrev pub shown_height : Cell → Bool → Option ℤ
shown_height (Height h) false = Some h
shown_height (Height h) true = None
shown_height Bad masked = None

-- the height of the point at a position, where one is present
abbrev pub height_at : Map → Pos → Option ℤ
height_at m p = shown_height (cell_at m p) (mask_at m p)

-- the height of a measured cell
abbrev pub height_or_zero : Cell → ℤ
height_or_zero (Height h) = h
height_or_zero Bad = pos 0

abbrev pub IsMeasured : Cell → Type 0
IsMeasured (Height h) = Unit {0}
IsMeasured Bad = ⊥

-- a point is present if its cell is a height and its mask is not set
pub record Present (m : Map) (p : Pos) : Type 0 where
  pub in_grid : InGrid m.size p
  pub measured : IsMeasured (cell_at m p)
  pub shown : mask_at m p ≡ false
