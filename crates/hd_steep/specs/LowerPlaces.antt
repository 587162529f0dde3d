-- By column which of the eight places round it are lower than the point there.
use Rattle.std.specs.Prelude.{◌≡◌, ◌<◌, ◌≤◌, ◌+◌, ℕ, Bool, true, List, [], ◌∷◌, length, is_some, Contains}
use Rattle.std.specs.Bool.{OnFalse}
use Rattle.hd_map.specs.declared.types.Adjacency.{Adjacency}
use Rattle.hd_map.specs.declared.types.Rank.{Rank}
use Rattle.hd_map.specs.declared.types.SideName.{SideName}
use Rattle.hd_map.specs.Encoding.{Encoding, number_in}
use Rattle.hd_steep.specs.declared.lower_places.LowerPlaces.{LowerPlaces}
use Rattle.hd_steep.specs.declared.rolling.Rows.{Rows}
use Rattle.hd_steep.specs.KeyRows.{ranks_of}
use Rattle.hd_steep.specs.Keys.{IsKey, rank_of}
use Rattle.hd_steep.specs.Lowest.{earlier_below, later_below}
use Rattle.hd_steep.specs.Ring.{are_lower_heights, is_marked, marks_of, ring_of, IsOneAtMost}
use Rattle.hd_steep.specs.Rows.{rank_in}

-- they tell of this many columns
pub record HasColumns (columns : ℕ) (places : LowerPlaces) : Type 0 where
  pub north : length places.north.items ≡ columns
  pub north_east : length places.north_east.items ≡ columns
  pub east : length places.east.items ≡ columns
  pub south_east : length places.south_east.items ≡ columns
  pub south : length places.south.items ≡ columns
  pub south_west : length places.south_west.items ≡ columns
  pub west : length places.west.items ≡ columns
  pub north_west : length places.north_west.items ≡ columns

-- which of the eight places round a column are lower
abbrev pub lower_round : LowerPlaces → ℕ → List Bool
lower_round places x =
    is_marked places.north.items x ∷ is_marked places.north_east.items x ∷ is_marked places.east.items x ∷ is_marked places.south_east.items x
    ∷ is_marked places.south.items x ∷ is_marked places.south_west.items x ∷ is_marked places.west.items x ∷ is_marked places.north_west.items x ∷ []

-- by column whether several of its places are marked under the setting
abbrev pub AreSeveral : Adjacency → LowerPlaces → List Bool → Type 0
AreSeveral adjacency places several = (x : ℕ) → x < length several → OnFalse (is_marked several x) (IsOneAtMost (marks_of adjacency (lower_round places x)))

module _ {L : Type 0} (code : Encoding L) where
  -- the row has a key at each of these columns, and one on each side
  pub record IsWide (columns : ℕ) (keys : List L) : Type 0 where
    pub whole : length keys ≡ columns + 2
    pub each : (k : ℕ) → IsKey code (number_in code keys k)

  -- three rows that are so wide
  pub record AreWide (columns : ℕ) (rows : Rows L) : Type 0 where
    pub above : IsWide columns rows.above.keys.items
    pub level : IsWide columns rows.level.keys.items
    pub below : IsWide columns rows.below.keys.items

  -- the columns before one that are marked and have a key that is shown
  pub record AreListedBefore (level : List L) (marks : List Bool) (n : ℕ) (columns : List ℕ) : Type 0 where
    pub inside : (x : ℕ) → Contains columns x → x < n
    pub shown : (x : ℕ) → Contains columns x → is_some (code.shown (number_in code level (x + 1))) ≡ true
    pub all : (x : ℕ) → x < n → is_marked marks x ≡ true → is_some (code.shown (number_in code level (x + 1))) ≡ true → Contains columns x
    pub few : length columns ≤ n

  module _ (side : SideName) where
    -- by column, before one, what a test tells of the key so much further on in a row and of the one in the middle, at any indexes
    abbrev pub AreTested : (Rank → Rank → Bool) → List L → ℕ → List L → ℕ → List Bool → Type 0
    AreTested below keys shift level n marks =
        (k : ℕ) → k < n → (i j : ℕ) → is_marked marks k ≡ below (rank_of code side i (number_in code keys (k + shift))) (rank_of code side j (number_in code level (k + 1)))

    -- by column whether the key so much further on in a row is that of a point below the one in the middle, which comes after it
    abbrev pub AreEarlierBelow : List L → ℕ → List L → List Bool → Type 0
    AreEarlierBelow keys shift level lower = AreTested (earlier_below side) keys shift level (length lower) lower

    -- the same where the one in the middle comes before it
    abbrev pub AreLaterBelow : List L → ℕ → List L → List Bool → Type 0
    AreLaterBelow keys shift level lower = AreTested (later_below side) keys shift level (length lower) lower

    -- by column of the middle one of three rows which of the eight places round it are lower
    pub record AreLowerPlaces (columns : ℕ) (rows : Rows L) (places : LowerPlaces) : Type 0 where
      pub sized : HasColumns columns places
      pub each : (x : ℕ) → x < columns → lower_round places x ≡ are_lower_heights side (rank_in (ranks_of code side rows.level) (x + 1)) (ring_of (ranks_of code side rows.above) (ranks_of code side rows.level) (ranks_of code side rows.below) x)
