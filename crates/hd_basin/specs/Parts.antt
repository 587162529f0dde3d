-- What a pool keeps, tile by tile.
use Rattle.std.specs.Prelude.{◌≡◌, ◌≢◌, ◌<◌, ◌≤◌, ◌⊎◌, ◌+◌, ◌-◌, ◌*◌, ◌/◌, ◌%◌, ℕ, Bool, false, List, [], ◌∷◌, length, map, min, nat_eq, MatchOption, Option, Some, None, AllPairs, Contains, slice_get, slice_index_or, if◌then◌else◌}
use Rattle.hd_map.specs.declared.types.Pos.{Pos}
use Rattle.hd_map.specs.declared.types.Rank.{Rank}
use Rattle.hd_map.specs.declared.types.Size.{Size}
use Rattle.hd_map.specs.declared.types.Pass.{Pass}
use Rattle.hd_basin.specs.declared.part.Seam.{Seam}
use Rattle.hd_map.specs.Map.{cell_count, position_at}
use Rattle.hd_steep.specs.Rows.{past_end}
use Rattle.hd_tiles.specs.Tile.{tile_of, tile_count}
use Rattle.hd_basin.specs.Basin.{tile_at}
use Rattle.hd_basin.specs.declared.node.Node.{Node}
use Rattle.hd_basin.specs.declared.part.Join.{Join}
use Rattle.hd_basin.specs.declared.part.Part.{Part}
use Rattle.hd_basin.specs.Sinks.{no_node}

-- the pool of a grid of this size in tiles of this side
pub record Pool : Type 0 where
  pub size : Size
  pub side : ℕ
  pub parts : List Part

-- how many columns of a tile there are, beginning at this one
abbrev pub columns_from : Size → ℕ → ℕ → ℕ
columns_from s t left = min t (s.points - left)

-- the place of a position in the lists of its tile: profile by profile of the tile
abbrev pub place_in_tile : Size → ℕ → Pos → ℕ
place_in_tile s t p = p.y % t * columns_from s t (p.x / t * t) + p.x % t

-- the node that the label at a place of the tile names, and none where there is no label
abbrev pub node_at : Option Part → ℕ → Option Node
node_at None place = None
node_at (Some part) place = slice_get part.nodes (slice_index_or part.labels.items place (length part.nodes))

-- the number of the node that the label at a place of the tile names, and none where there is no label
abbrev pub NumberIs : Part → ℕ → Option ℕ → Type 0
NumberIs part place result = MatchOption result (node_at (Some part) place ≡ None)
    (λ number. (number < length part.nodes)
    × (slice_get part.nodes number ≡ node_at (Some part) place))

-- the node that the pool has for a position
abbrev pub node_of : Size → ℕ → List Part → Pos → Option Node
node_of s t parts p = node_at (slice_get parts (tile_of s t p)) (place_in_tile s t p)

-- the sink of a node
abbrev pub low_of : Option Node → Option Rank
low_of None = None
low_of (Some n) = Some n.low

-- the sink that the pool has for a position
abbrev pub label_of : Size → ℕ → List Part → Pos → Option Rank
label_of s t parts p = low_of (node_of s t parts p)

-- the sink of a node, and no point where there is no node
abbrev pub low_or_none : Option Node → Rank
low_or_none None = past_end
low_or_none (Some n) = n.low

-- the pass between two nodes, by their numbers
abbrev pub pass_named : List Node → Join → Pass
pass_named nodes j = record { a = low_or_none (slice_get nodes j.a); b = low_or_none (slice_get nodes j.b); at = j.at }

-- the passes between two basins of a tile
abbrev pub inner_passes : Part → List Pass
inner_passes part = map (pass_named part.nodes) part.joins

-- the node is one of those of the tile
pub record HasNode (parts : List Part) (tile : ℕ) (n : Node) : Type 0 where
  pub part : Part
  pub at : slice_get parts tile ≡ Some part
  pub has : Contains part.nodes n

-- a pass joins a and b, whichever of them it names first
abbrev pub IsBetween : Pass → Rank → Rank → Rank → Type 0
IsBetween p a b w = (p ≡ record { a = a; b = b; at = w }) ⊎ (p ≡ record { a = b; b = a; at = w })

-- a pass of the tile joins a and b
pub record IsInside (parts : List Part) (a b w : Rank) : Type 0 where
  pub tile : ℕ
  pub part : Part
  pub pass : Pass
  pub at : slice_get parts tile ≡ Some part
  pub has : Contains (inner_passes part) pass
  pub between : IsBetween pass a b w

-- one end of the seam lies in the tile, and the other in another one
pub record IsSeamOf (s : Size) (t tile : ℕ) (seam : Seam) : Type 0 where
  pub apart : seam.with ≢ tile
  pub ends : ((tile_at s t seam.pass.a ≡ tile) × (tile_at s t seam.pass.b ≡ seam.with))
      ⊎ ((tile_at s t seam.pass.b ≡ tile) × (tile_at s t seam.pass.a ≡ seam.with))

-- a seam of a tile joins a and b, and the other tile was not seen again since
pub record IsAcross (parts : List Part) (a b w : Rank) : Type 0 where
  pub tile : ℕ
  pub part : Part
  pub seam : Seam
  pub other : Part
  pub at : slice_get parts tile ≡ Some part
  pub has : Contains part.seams seam
  pub between : IsBetween seam.pass a b w
  pub with_at : slice_get parts seam.with ≡ Some other
  pub since : other.seen ≡ Some seam.stamp

-- a pass or a seam of the pool joins a and b
abbrev pub IsLinked : List Part → Rank → Rank → Rank → Type 0
IsLinked parts a b w = IsInside parts a b w ⊎ IsAcross parts a b w

-- the pool has seen the tile with its present stamp
pub record IsFresh (stamps : List ℕ) (parts : List Part) (tile : ℕ) : Type 0 where
  pub stamp : ℕ
  pub part : Part
  pub now : slice_get stamps tile ≡ Some stamp
  pub at : slice_get parts tile ≡ Some part
  pub seen : part.seen ≡ Some stamp

-- whether a tile was seen with this stamp
abbrev pub is_seen_with : Option ℕ → ℕ → Bool
is_seen_with None stamp = false
is_seen_with (Some seen) stamp = nat_eq seen stamp

-- two passes do not join the same two basins, whichever of them each names first
abbrev pub JoinOthers : Pass → Pass → Type 0
JoinOthers p q = (p.a ≡ q.a → p.b ≡ q.b → ⊥) × (p.a ≡ q.b → p.b ≡ q.a → ⊥)

-- each two basins are joined once at most: by one pass of a tile, or by one seam that is not void
pub record JoinOnce (parts : List Part) : Type 0 where
  pub inside : (tile : ℕ) (part : Part) → slice_get parts tile ≡ Some part → AllPairs (λ p q. JoinOthers p q) (inner_passes part)
  pub across : (tile : ℕ) (part : Part) → slice_get parts tile ≡ Some part → AllPairs (λ (s u : Seam). JoinOthers s.pass u.pass) part.seams
  pub one_way : (i j : ℕ) (p q : Part) (s u : Seam) → slice_get parts i ≡ Some p → slice_get parts j ≡ Some q → Contains p.seams s → Contains q.seams u
      → s.with ≡ j → u.with ≡ i → q.seen ≡ Some s.stamp → p.seen ≡ Some u.stamp → ⊥

-- how many tiles have another stamp than the one that they were seen with
abbrev pub stale_count : List ℕ → List Part → ℕ
stale_count [] parts = 0
stale_count (stamp ∷ stamps) [] = 0
stale_count (stamp ∷ stamps) (part ∷ parts) = (if is_seen_with part.seen stamp then 0 else 1) + stale_count stamps parts

-- the numbers of both nodes of each pass are below a count
abbrev pub JoinBelow : ℕ → List Join → Type 0
JoinBelow count joins = (j : Join) → Contains joins j → (j.a < count) × (j.b < count)

-- each label of a tile names one of its nodes, or none, and each pass inside it names two of them
pub record NameNodes (part : Part) : Type 0 where
  pub labels : (label : ℕ) → Contains part.labels.items label → label ≢ no_node → label < length part.nodes
  pub passes : JoinBelow (length part.nodes) part.joins

-- the node stands under its key, which is the index of its sink: the tile that lists it has the sink, and names the
-- node there
pub record IsUnderKey (pool : Pool) (tile : ℕ) (n : Node) : Type 0 where
  pub tile_is : n.tile ≡ tile
  pub in_tile : tile_at pool.size pool.side n.low ≡ tile
  pub in_grid : n.low.index < cell_count pool.size
  pub named : node_of pool.size pool.side pool.parts (position_at pool.size n.low.index) ≡ Some n

-- the seam is between a node of the tile and one of the other tile
pub record JoinsNodes (parts : List Part) (tile : ℕ) (seam : Seam) : Type 0 where
  pub own : Node
  pub other : Node
  pub own_has : HasNode parts tile own
  pub other_has : HasNode parts seam.with other
  pub between : IsBetween seam.pass own.low other.low seam.pass.at

-- what a pool is, of whatever maps its tiles were seen: each node stands under a key that its tile lists, each label
-- names a node of its own tile, and each pass and each seam that is not void names two nodes, which are joined by no
-- other one; the seen stamp of a seam's other tile has not fallen since
pub record IsSound (pool : Pool) : Type 0 where
  pub whole : length pool.parts ≡ tile_count pool.size pool.side
  pub names : (tile : ℕ) (part : Part) → slice_get pool.parts tile ≡ Some part → NameNodes part
  pub keyed : (tile : ℕ) (n : Node) → HasNode pool.parts tile n → IsUnderKey pool tile n
  pub inside : (tile : ℕ) (part : Part) (pass : Pass) → slice_get pool.parts tile ≡ Some part → Contains (inner_passes part) pass
      → (tile_at pool.size pool.side pass.a ≡ tile) × (tile_at pool.size pool.side pass.b ≡ tile)
  pub across : (tile : ℕ) (part : Part) (seam : Seam) → slice_get pool.parts tile ≡ Some part → Contains part.seams seam
      → IsSeamOf pool.size pool.side tile seam
  pub joined : (tile : ℕ) (part other : Part) (seam : Seam) → slice_get pool.parts tile ≡ Some part → Contains part.seams seam
      → slice_get pool.parts seam.with ≡ Some other → other.seen ≡ Some seam.stamp → JoinsNodes pool.parts tile seam
  pub since : (tile : ℕ) (part : Part) (seam : Seam) → slice_get pool.parts tile ≡ Some part → Contains part.seams seam
      → (other : Part) × (seen : ℕ) × (slice_get pool.parts seam.with ≡ Some other) × (other.seen ≡ Some seen) × (seam.stamp ≤ seen)
  pub once : JoinOnce pool.parts
