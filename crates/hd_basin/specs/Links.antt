-- Links by place of a tile, along which each point leads to its sink.
use Rattle.std.specs.Prelude.{◌≡◌, ◌<◌, ◌≤◌, ◌*◌, ◌↔◌, ℕ, true, List, length, slice_index}
use Rattle.hd_map.specs.declared.types.Rank.{Rank}
use Rattle.hd_map.specs.declared.types.SideName.{SideName}
use Rattle.hd_map.specs.Map.{Map, Present}
use Rattle.hd_map.specs.Rank.{rank, below_by}
use Rattle.hd_basin.specs.declared.frame.Frame.{Frame}
use Rattle.hd_basin.specs.Basin.{IsSink, IsSinkOf}
use Rattle.hd_basin.specs.Frames.{FitsGrid}
use Rattle.hd_basin.specs.Sinks.{IsSunk, at_place, no_node}

-- q lies on the way from p to its sink in the tile, and is p itself only if p is a sink
pub record IsOnward (m : Map) (side : SideName) (t : ℕ) (p q : Rank) : Type 0 where
  pub same_sink : (s : Rank) → IsSinkOf m side t p s ↔ IsSinkOf m side t q s
  pub below : (q ≡ p → ⊥) → below_by side q p ≡ true
  pub stays : q ≡ p → IsSink m side t p

-- the link is the place of a point onward from that at the place k
pub record LeadsOnward (m : Map) (side : SideName) (t : ℕ) (f : Frame) (k link : ℕ) : Type 0 where
  pub inside : link < f.columns * f.rows
  pub present : Present m (at_place f link)
  pub onward : IsOnward m side t (rank m (at_place f k)) (rank m (at_place f link))

-- the link of a place, which is none where no point is present
pub record IsLink (m : Map) (side : SideName) (t : ℕ) (f : Frame) (k link : ℕ) : Type 0 where
  pub point : Present m (at_place f k) → LeadsOnward m side t f k link
  pub none : (Present m (at_place f k) → ⊥) → link ≡ no_node

-- the links of the first places
pub record AreLinksTo (m : Map) (side : SideName) (t : ℕ) (f : Frame) (n : ℕ) (links : List ℕ) : Type 0 where
  pub whole : length links ≡ n
  pub each : (k : ℕ) → k < n → IsLink m side t f k (slice_index links k)

-- the links of all places of a part of the grid that is not large
pub record AreLinks (m : Map) (side : SideName) (t : ℕ) (f : Frame) (links : List ℕ) : Type 0 where
  pub few : f.columns * f.rows ≤ 65536
  pub fits : FitsGrid m.size f
  pub all : AreLinksTo m side t f (f.columns * f.rows) links

-- the links, of which the first lead to the sinks
pub record LedTo (m : Map) (side : SideName) (t : ℕ) (f : Frame) (n : ℕ) (links : List ℕ) : Type 0 where
  pub linked : AreLinks m side t f links
  pub led : (k : ℕ) → k < n → IsSunk m side t f k (slice_index links k)
