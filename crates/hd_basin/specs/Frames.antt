-- A part of a grid, and the map of which only the heights of that part are measured.
use Rattle.std.specs.Prelude.{◌≡◌, ◌<◌, ◌≤◌, ◌≤ℤ◌, ◌+◌, ◌-◌, ◌*◌, ◌/◌, ◌%◌, ◌&&◌, ℕ, ℤ, Bool, false, List, length, map, replicate, nat_le, nat_lt, Option, Some, None, slice_index_or, if◌then◌else◌}
use Rattle.std.specs.List.{range_with_len}
use Rattle.hd_map.specs.declared.types.Adjacency.{Adjacency}
use Rattle.hd_map.specs.declared.types.Pos.{Pos}
use Rattle.hd_map.specs.declared.types.Size.{Size}
use Rattle.hd_map.specs.declared.types.Cell.{Cell}
use Rattle.hd_map.specs.declared.types.Cell.TheVariants.{Height, Bad}
use Rattle.hd_map.specs.declared.types.DataType.{DataType}
use Rattle.hd_map.specs.declared.types.DataType.TheVariants.{Double}
use Rattle.hd_map.specs.Map.{Map, IsSize, InGrid, cell_count, height_at, least_height, greatest_height, position_at}
use Rattle.hd_tiles.specs.Tile.{IsRound}
use Rattle.hd_basin.specs.declared.frame.Frame.{Frame}

-- the position lies in the part
pub record InFrame (f : Frame) (p : Pos) : Type 0 where
  pub left : f.left ≤ p.x
  pub right : p.x < f.left + f.columns
  pub top : f.top ≤ p.y
  pub bottom : p.y < f.top + f.rows

-- the part lies in a grid of this size
pub record FitsGrid (s : Size) (f : Frame) : Type 0 where
  pub right : f.left + f.columns ≤ s.points
  pub bottom : f.top + f.rows ≤ s.profiles

-- the part has each position of the tile and beside it
abbrev pub HoldsRound : Size → ℕ → ℕ → Frame → Type 0
HoldsRound s t tile f = (q : Pos) → InGrid s q → IsRound s t tile q → InFrame f q

-- and no other
abbrev pub IsRoundOnly : Size → ℕ → ℕ → Frame → Type 0
IsRoundOnly s t tile f = (q : Pos) → InFrame f q → IsRound s t tile q

-- whether the position lies in the part
abbrev pub is_in : Frame → Pos → Bool
is_in f p = nat_le f.left p.x && nat_lt p.x (f.left + f.columns) && nat_le f.top p.y && nat_lt p.y (f.top + f.rows)

-- the height at a position of the part, and none elsewhere
abbrev pub seen_at : Frame → List (Option ℤ) → Pos → Option ℤ
seen_at f heights p = if is_in f p then slice_index_or heights ((p.y - f.top) * f.columns + (p.x - f.left)) None else None

-- a height as a cell
abbrev pub cell_of : Option ℤ → Cell
cell_of (Some h) = Height h
cell_of None = Bad

-- a data type that has all heights of any
abbrev pub any_type : DataType
any_type = Double 0

-- the map of these heights in a part of the grid, with nothing measured elsewhere, and no masks
abbrev pub framed_map : Size → Adjacency → Frame → List (Option ℤ) → Map
framed_map s a f heights = record {
  size = s;
  data_type = any_type;
  cells = map {A = ℕ} {B = Cell} (λ k. cell_of (seen_at f heights (position_at s k))) (range_with_len 0 (cell_count s));
  masks = replicate (cell_count s) false;
  adjacency = a;
}

-- the part that is the whole grid
abbrev pub whole_frame : Size → Frame
whole_frame s = record { left = 0; top = 0; columns = s.points; rows = s.profiles }

-- the heights of a part that lies in the grid
pub record IsWindow (s : Size) (f : Frame) (heights : List (Option ℤ)) : Type 0 where
  pub size : IsSize s
  pub fits : FitsGrid s f
  pub whole : length heights ≡ f.columns * f.rows
  pub range : (k : ℕ) (h : ℤ) → slice_index_or heights k None ≡ Some h → (least_height any_type ≤ℤ h) × (h ≤ℤ greatest_height any_type)

-- the second map shows the heights of the first in the part, under the same setting
pub record ShowsFrame (m : Map) (f : Frame) (n : Map) : Type 0 where
  pub size : m.size ≡ n.size
  pub adjacency : m.adjacency ≡ n.adjacency
  pub heights : (q : Pos) → InGrid m.size q → InFrame f q → height_at m q ≡ height_at n q

-- the position at a step through a part, profile by profile
abbrev pub at_step : Frame → ℕ → Pos
at_step f k = record { x = f.left + k % f.columns; y = f.top + k / f.columns }

-- the heights at the first steps
pub record AreFilled (m : Map) (f : Frame) (n : ℕ) (heights : List (Option ℤ)) : Type 0 where
  pub whole : length heights ≡ n
  pub each : (k : ℕ) → k < n → slice_index_or heights k None ≡ height_at m (at_step f k)

-- the position in the grid of one of the part, which is counted from its first one
abbrev pub moved : Frame → Pos → Pos
moved f q = record { x = f.left + q.x; y = f.top + q.y }

-- the second map is the part of the first as a map of its own
pub record IsPartOf (m : Map) (f : Frame) (n : Map) : Type 0 where
  pub fits : FitsGrid m.size f
  pub columns : n.size.points ≡ f.columns
  pub rows : n.size.profiles ≡ f.rows
  pub adjacency : n.adjacency ≡ m.adjacency
  pub heights : (q : Pos) → InGrid n.size q → height_at n q ≡ height_at m (moved f q)
