-- A pool in step with a map and its stamps, and the pool of a whole map.
use Rattle.std.specs.Prelude.{◌≡◌, ◌≢◌, ◌≤◌, ◌⊎◌, ℕ, List, Some, AllPairs, slice_get}
use Rattle.hd_map.specs.declared.types.Pos.{Pos}
use Rattle.hd_map.specs.declared.types.SideName.{SideName}
use Rattle.hd_map.specs.Map.{Map, IsMap, InGrid}
use Rattle.hd_tiles.specs.Tile.{IsRound}
use Rattle.hd_basin.specs.declared.node.Node.{Node}
use Rattle.hd_basin.specs.declared.part.Part.{Part}
use Rattle.hd_basin.specs.Parts.{Pool, HasNode, IsLinked, IsFresh, JoinOnce, label_of}
use Rattle.hd_basin.specs.Pool.{IsRightOn}

-- of some tiles all that the pool has is that of the map, each node once
pub record HasRight (m : Map) (side : SideName) (Seen : ℕ → Type 0) (pool : Pool) : Type 0 where
  pub right : IsRightOn m side pool.side Seen (HasNode pool.parts) (label_of pool.size pool.side pool.parts) (IsLinked pool.parts)
  pub once : (tile : ℕ) (part : Part) → Seen tile → slice_get pool.parts tile ≡ Some part
      → AllPairs (λ (n u : Node). n.low ≢ u.low) part.nodes

-- the pool has the map's size, no seen stamp is above the tile's present one, and of the tiles whose present stamp
-- was seen, and of the passes between two of them, what the pool has is that of the map
pub record IsInStep (m : Map) (side : SideName) (stamps : List ℕ) (pool : Pool) : Type 0 where
  pub size : pool.size ≡ m.size
  pub not_ahead : (tile seen now : ℕ) (part : Part) → slice_get pool.parts tile ≡ Some part → part.seen ≡ Some seen
      → slice_get stamps tile ≡ Some now → seen ≤ now
  pub has : HasRight m side (IsFresh stamps pool.parts) pool

-- the pool is that of the whole map, and no two basins have two passes
pub record IsPoolOf (m : Map) (side : SideName) (pool : Pool) : Type 0 where
  pub size : pool.size ≡ m.size
  pub once : JoinOnce pool.parts
  pub has : HasRight m side (λ tile. Unit {0}) pool

-- there is a map that it is the pool of
pub record HasMap (side : SideName) (pool : Pool) : Type 0 where
  pub map : Map
  pub whole : IsMap map
  pub pool_of : IsPoolOf map side pool

-- each tile was seen with its present stamp
abbrev pub HasSeenAll : List ℕ → Pool → Type 0
HasSeenAll stamps pool = (tile stamp : ℕ) → slice_get stamps tile ≡ Some stamp → IsFresh stamps pool.parts tile

-- a tile that was fresh is so still, and no other seen stamp is there than the one before and the present one
pub record KeepsSeen (stamps : List ℕ) (old new : Pool) : Type 0 where
  pub fresh : (tile : ℕ) → IsFresh stamps old.parts tile → IsFresh stamps new.parts tile
  pub known : (tile seen : ℕ) (part : Part) → slice_get new.parts tile ≡ Some part → part.seen ≡ Some seen
      → (slice_get stamps tile ≡ Some seen) ⊎ ((was : Part) × (slice_get old.parts tile ≡ Some was) × (was.seen ≡ Some seen))

-- the positions that a refresh may ask leave for: those of the tiles whose stamp differs, and those beside them
pub record IsBesideStale (m : Map) (stamps : List ℕ) (pool : Pool) (p : Pos) : Type 0 where
  pub in_grid : InGrid m.size p
  pub tile : ℕ
  pub stale : IsFresh stamps pool.parts tile → ⊥
  pub round : IsRound m.size pool.side tile p
