-- Which points of a profile become others by heights that it is to have.
use Rattle.std.specs.Prelude.{◌≡◌, ◌<◌, ◌≤◌, ◌+◌, ℕ, ℤ, List, Option, None, slice_index_or}
use Rattle.hd_map.specs.Map.{Map, cell_at}
use Rattle.hd_map.specs.Sets.{cell_with}
use Rattle.hd_tiles.specs.Tile.{IsRound}

-- the cell of a column stays
abbrev pub Stays : Map → ℕ → List (Option ℤ) → ℕ → Type 0
Stays m y heights x = cell_with (slice_index_or heights x None) (cell_at m (record { x = x; y = y })) ≡ cell_at m (record { x = x; y = y })

-- the cell of a column becomes another
abbrev pub Changes : Map → ℕ → List (Option ℤ) → ℕ → Type 0
Changes m y heights x = Stays m y heights x → ⊥

-- the cells of these columns stay
abbrev pub AllStay : Map → ℕ → List (Option ℤ) → ℕ → ℕ → Type 0
AllStay m y heights from to = (x : ℕ) → from ≤ x → x < to → Stays m y heights x

-- the first of these columns whose cell becomes another
pub record IsFirstChange (m : Map) (y : ℕ) (heights : List (Option ℤ)) (from to first : ℕ) : Type 0 where
  pub not_before : from ≤ first
  pub below : first < to
  pub changes : Changes m y heights first
  pub before : AllStay m y heights from first

-- the last of these columns whose cell becomes another
pub record IsLastChange (m : Map) (y : ℕ) (heights : List (Option ℤ)) (from to last : ℕ) : Type 0 where
  pub not_before : from ≤ last
  pub below : last < to
  pub changes : Changes m y heights last
  pub after : AllStay m y heights (last + 1) to

-- the cell of one of the first columns becomes another
pub record SomeChanges (m : Map) (y : ℕ) (heights : List (Option ℤ)) (to : ℕ) : Type 0 where
  pub column : ℕ
  pub below : column < to
  pub changes : Changes m y heights column

-- the tile holds a point of these columns whose cell becomes another, or one of the eight positions round such a point
pub record IsRoundChange (m : Map) (y : ℕ) (heights : List (Option ℤ)) (t from to tile : ℕ) : Type 0 where
  pub column : ℕ
  pub not_before : from ≤ column
  pub below : column < to
  pub changes : Changes m y heights column
  pub round : IsRound m.size t tile (record { x = column; y = y })
