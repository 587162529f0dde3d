-- The stamps of the tiles of a map, and how they change with it.
use Rattle.std.specs.Prelude.{◌≡◌, ◌≢◌, ◌<◌, ◌≤◌, ◌+◌, ◌⊎◌, ℕ, Bool, List, length, Some, slice_get}
use Rattle.hd_map.specs.declared.types.Pos.{Pos}
use Rattle.hd_map.specs.Map.{Map, InGrid, IsMap, cell_at, cell_count}
use Rattle.hd_tiles.specs.Tile.{IsTileSide, tile_count, IsRound, Agree}

-- a map in tiles, with a stamp for each tile, and by index whether a position may be looked at
pub record IsLooked (m : Map) (t : ℕ) (stamps : List ℕ) (leave : List Bool) : Type 0 where
  pub map : IsMap m
  pub side : IsTileSide t
  pub tiles : length stamps ≡ tile_count m.size t
  pub positions : length leave ≡ cell_count m.size

-- one map in tiles comes from another: both have the same size and tile side, no stamp is less than in the
-- other, and for each tile whose stamp is the same in both, so are the setting and the cells and masks in the
-- tile and beside it
pub record ComesFrom (old : Map) (was_side : ℕ) (before : List ℕ) (new : Map) (side : ℕ) (after : List ℕ) : Type 0 where
  pub size : old.size ≡ new.size
  pub same_side : was_side ≡ side
  pub not_less : (tile was now : ℕ) → slice_get before tile ≡ Some was → slice_get after tile ≡ Some now → was ≤ now
  pub stays : (tile stamp : ℕ) → slice_get before tile ≡ Some stamp → slice_get after tile ≡ Some stamp
      → Agree old new side tile

-- no stamp is above the count
abbrev pub AreUpTo : ℕ → List ℕ → Type 0
AreUpTo count stamps = (tile stamp : ℕ) → slice_get stamps tile ≡ Some stamp → stamp ≤ count

-- the stamps of some tiles rise to the number of a change, and all others stay
pub record Rise (Touched : ℕ → Type 0) (number : ℕ) (before after : List ℕ) : Type 0 where
  pub whole : length after ≡ length before
  pub above : (tile was : ℕ) → Touched tile → slice_get before tile ≡ Some was → was < number
  pub touched : (tile now : ℕ) → Touched tile → slice_get after tile ≡ Some now → now ≡ number
  pub others : (tile : ℕ) → (Touched tile → ⊥) → slice_get after tile ≡ slice_get before tile

-- a set that leaves the map touches no tile; every other set is counted as one more change, and touches these: their
-- stamp becomes the count after it
pub record Touches (Touched : ℕ → Type 0) (old new : Map) (was now : ℕ) (before after : List ℕ) : Type 0 where
  pub same : new ≡ old → after ≡ before
  pub counted : (new ≡ old → ⊥) → now ≡ was + 1
  pub changed : (new ≡ old → ⊥) → Rise Touched now before after

-- a change of the cell or the mask at a position touches each tile that holds the position or one of the eight
-- positions round it
abbrev pub TouchesRound : ℕ → Pos → Map → Map → ℕ → ℕ → List ℕ → List ℕ → Type 0
TouchesRound t p old new was now before after = Touches (λ tile. IsRound old.size t tile p) old new was now before after

-- a change of the heights of a profile touches each tile that holds a point of it whose cell becomes another, or
-- one of the eight positions round such a point
abbrev pub TouchesProfile : ℕ → ℕ → Map → Map → ℕ → ℕ → List ℕ → List ℕ → Type 0
TouchesProfile t y old new was now before after =
    Touches (λ tile. (p : Pos) × InGrid old.size p × (p.y ≡ y) × (cell_at new p ≢ cell_at old p) × IsRound old.size t tile p) old new was now before after

-- a change of the setting touches every tile
abbrev pub TouchesAll : Map → Map → ℕ → ℕ → List ℕ → List ℕ → Type 0
TouchesAll old new was now before after = Touches (λ tile. Unit {0}) old new was now before after

-- these tiles have this stamp, and all others the one that they had
pub record AreStamped (Touched : ℕ → Type 0) (stamp : ℕ) (before after : List ℕ) : Type 0 where
  pub whole : length after ≡ length before
  pub touched : (tile now : ℕ) → Touched tile → slice_get after tile ≡ Some now → now ≡ stamp
  pub either : (tile : ℕ) → (slice_get after tile ≡ Some stamp) ⊎ (slice_get after tile ≡ slice_get before tile)
  pub others : (tile : ℕ) → (Touched tile → ⊥) → slice_get after tile ≡ slice_get before tile
