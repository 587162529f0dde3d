-- The sinks of the points of a part of a grid, place by place.
use Rattle.std.specs.Prelude.{◌≡◌, ◌<◌, ◌+◌, ◌-◌, ◌*◌, ◌/◌, ◌%◌, ℕ, List, length, min, slice_index}
use Rattle.hd_map.specs.declared.types.Pos.{Pos}
use Rattle.hd_map.specs.declared.types.Size.{Size}
use Rattle.hd_map.specs.declared.types.SideName.{SideName}
use Rattle.hd_map.specs.Map.{Map, Present}
use Rattle.hd_map.specs.Rank.{rank}
use Rattle.hd_tiles.specs.Tile.{tiles_across}
use Rattle.hd_basin.specs.declared.frame.Frame.{Frame}
use Rattle.hd_basin.specs.Basin.{IsSinkOf}

-- the number that stands where no node is, and no place
abbrev pub no_node : ℕ
no_node = 4294967295

-- the positions of a tile
pub record IsArea (s : Size) (t tile : ℕ) (f : Frame) : Type 0 where
  pub left : f.left ≡ tile % tiles_across s t * t
  pub columns : f.columns ≡ min t (s.points - f.left)
  pub top : f.top ≡ tile / tiles_across s t * t
  pub rows : f.rows ≡ min t (s.profiles - f.top)
  pub some_columns : f.left < s.points
  pub some_rows : f.top < s.profiles

-- the position at a place of a part, profile by profile
abbrev pub at_place : Frame → ℕ → Pos
at_place f k = record { x = f.left + k % f.columns; y = f.top + k / f.columns }

-- the place is that of the sink of the point at the place k, and no place where no point is present
pub record IsSunk (m : Map) (side : SideName) (t : ℕ) (f : Frame) (k place : ℕ) : Type 0 where
  pub inside : Present m (at_place f k) → place < f.columns * f.rows
  pub present : Present m (at_place f k) → Present m (at_place f place)
  pub sink : Present m (at_place f k) → IsSinkOf m side t (rank m (at_place f k)) (rank m (at_place f place))
  pub none : (Present m (at_place f k) → ⊥) → place ≡ no_node

-- the sinks of the points at all places
pub record AreSunk (m : Map) (side : SideName) (t : ℕ) (f : Frame) (sinks : List ℕ) : Type 0 where
  pub whole : length sinks ≡ f.columns * f.rows
  pub each : (k : ℕ) → k < f.columns * f.rows → IsSunk m side t f k (slice_index sinks k)
