-- What a pool has to have of some tiles of a map.
use Rattle.std.specs.Prelude.{◌≡◌, ◌≢◌, ◌⊎◌, ℕ, Option}
use Rattle.hd_map.specs.declared.types.Pos.{Pos}
use Rattle.hd_map.specs.declared.types.Rank.{Rank}
use Rattle.hd_map.specs.declared.types.SideName.{SideName}
use Rattle.hd_map.specs.Map.{Map, InGrid}
use Rattle.hd_tiles.specs.Tile.{tile_of}
use Rattle.hd_basin.specs.declared.node.Node.{Node}
use Rattle.hd_basin.specs.Basin.{IsSink, IsNode, IsLabel, IsBasinMeeting, IsBasinPass, tile_at}

-- there is a node of the sink s among those of the tile
pub record HasNodeOf (HasNode : ℕ → Node → Type 0) (tile : ℕ) (s : Rank) : Type 0 where
  pub node : Node
  pub has : HasNode tile node
  pub low : node.low ≡ s

-- of some tiles the nodes, the labels and the passes, and the passes between two of them, are those of the map:
-- what is there is right, and each sink has its node, each position its label, and each two basins that meet
-- their pass
pub record IsRightOn (m : Map) (side : SideName) (t : ℕ) (Seen : ℕ → Type 0) (HasNode : ℕ → Node → Type 0) (label : Pos → Option Rank) (Has : Rank → Rank → Rank → Type 0) : Type 0 where
  pub nodes : (tile : ℕ) (n : Node) → Seen tile → HasNode tile n → IsNode m side t n × (n.tile ≡ tile)
  pub sinks : (s : Rank) → Seen (tile_at m.size t s) → IsSink m side t s → HasNodeOf HasNode (tile_at m.size t s) s
  pub labels : (p : Pos) → InGrid m.size p → Seen (tile_of m.size t p) → IsLabel m side t p (label p)
  pub passes : (a b w : Rank) → Seen (tile_at m.size t a) → Seen (tile_at m.size t b) → Has a b w → IsBasinPass m side t a b w
  pub meetings : (a b u : Rank) → Seen (tile_at m.size t a) → Seen (tile_at m.size t b) → a ≢ b → IsBasinMeeting m side t a b u → (w : Rank) × Has a b w

-- what the pool has of one tile, and of its passes to some tiles, is that of the map
pub record IsTileRight (m : Map) (side : SideName) (t tile : ℕ) (Seen : ℕ → Type 0) (HasNode : ℕ → Node → Type 0) (label : Pos → Option Rank) (Has : Rank → Rank → Rank → Type 0) : Type 0 where
  pub nodes : (n : Node) → HasNode tile n → IsNode m side t n × (n.tile ≡ tile)
  pub sinks : (s : Rank) → tile_at m.size t s ≡ tile → IsSink m side t s → HasNodeOf HasNode tile s
  pub labels : (p : Pos) → InGrid m.size p → tile_of m.size t p ≡ tile → IsLabel m side t p (label p)
  pub passes : (a b w : Rank) → tile_at m.size t a ≡ tile → (tile_at m.size t b ≡ tile) ⊎ Seen (tile_at m.size t b) → Has a b w → IsBasinPass m side t a b w
  pub meetings : (a b u : Rank) → tile_at m.size t a ≡ tile → (tile_at m.size t b ≡ tile) ⊎ Seen (tile_at m.size t b) → a ≢ b → IsBasinMeeting m side t a b u → (w : Rank) × Has a b w
  pub both_ways : (a b w : Rank) → Has a b w → Has b a w
