-- The nodes of a tile, gathered from the points at its first places.
use Rattle.std.specs.Prelude.{◌≡◌, ◌≢◌, ◌<◌, ◌≤◌, ◌*◌, ◌++◌, ◌∷◌, [], ◌⊎◌, ℕ, Bool, true, false, List, length, MatchOption, Some, None, if◌then◌else◌, slice_get, slice_set, slice_index_or}
use Rattle.hd_map.specs.declared.types.Pos.{Pos}
use Rattle.hd_map.specs.declared.types.Rank.{Rank}
use Rattle.hd_map.specs.declared.types.SideName.{SideName}
use Rattle.hd_map.specs.Map.{Map, Present, position_at}
use Rattle.hd_map.specs.Rank.{rank}
use Rattle.hd_map.specs.Region.{IsPit}
use Rattle.hd_basin.specs.declared.frame.Frame.{Frame}
use Rattle.hd_basin.specs.declared.node.Node.{Node}
use Rattle.hd_basin.specs.Adding.{AddsPoint}
use Rattle.hd_basin.specs.Basin.{IsSink, IsSinkOf, FlowsTo, tile_at}
use Rattle.hd_map.specs.EdgePoint.{IsEdge}
use Rattle.hd_basin.specs.Parts.{place_in_tile}
use Rattle.hd_basin.specs.Sinks.{at_place, no_node}
use Rattle.hd_map.specs.Sums.{AreSums}

-- the point is that of one of the first places
pub record IsTaken (m : Map) (f : Frame) (k : ℕ) (r : Rank) : Type 0 where
  pub place : ℕ
  pub before : place < k
  pub present : Present m (at_place f place)
  pub rank_is : r ≡ rank m (at_place f place)

-- and lies in the basin of the sink s
abbrev pub Gathers : Map → SideName → ℕ → Frame → ℕ → Rank → Rank → Type 0
Gathers m side t f k s r = IsTaken m f k r × IsSinkOf m side t r s

-- the place of the sink of a node in its tile
abbrev pub home_of : Map → ℕ → Rank → ℕ
home_of m t s = place_in_tile m.size t (position_at m.size s.index)

-- the node is that of a sink of the tile, as far as the points were gathered
pub record IsGatheredNode (m : Map) (side : SideName) (t tile : ℕ) (f : Frame) (k : ℕ) (n : Node) : Type 0 where
  pub sink : IsSink m side t n.low
  pub in_tile : tile_at m.size t n.low ≡ tile
  pub tile_is : n.tile ≡ tile
  pub flows : MatchOption n.flows (IsPit m side n.low) (FlowsTo m side n.low)
  pub sums : AreSums (Gathers m side t f k n.low) (IsEdge m) n.points n.high n.least n.edge_low n.edge_high
  pub few : n.points ≤ k

-- the label names the node of the point's basin, and no node where no point is present
pub record IsNamed (m : Map) (side : SideName) (t : ℕ) (nodes : List Node) (p : Pos) (label : ℕ) : Type 0 where
  pub there : Present m p → (n : Node) × (slice_get nodes label ≡ Some n) × IsSinkOf m side t (rank m p) n.low
  pub none : (Present m p → ⊥) → label ≡ no_node

-- from the points at the first places were gathered the nodes, by the places of their sinks their numbers, and
-- for each of these places its label
pub record IsGathered (m : Map) (side : SideName) (t tile : ℕ) (f : Frame) (k : ℕ) (ns : List Node) (numbers ls : List ℕ) : Type 0 where
  pub numbers_count : length numbers ≡ f.columns * f.rows
  pub labels_count : length ls ≡ k
  pub few : length ns ≤ k
  pub nodes : (i : ℕ) (n : Node) → slice_get ns i ≡ Some n → IsGatheredNode m side t tile f k n
  pub homes : (i : ℕ) (n : Node) → slice_get ns i ≡ Some n → slice_get numbers (home_of m t n.low) ≡ Some i
  pub known : (j i : ℕ) → slice_get numbers j ≡ Some i → i ≢ no_node → (n : Node) × (slice_get ns i ≡ Some n) × (home_of m t n.low ≡ j)
  pub labels : (j : ℕ) → j < k → IsNamed m side t ns (at_place f j) (slice_index_or ls j no_node)

-- whether the point is an edge point
pub record TellsEdge (m : Map) (r : Rank) (edge : Bool) : Type 0 where
  pub on : edge ≡ true → IsEdge m r
  pub off : edge ≡ false → IsEdge m r → ⊥

-- the sink at q has no node yet, and gets one with the point at p alone
pub record StartsNode (m : Map) (side : SideName) (t tile : ℕ) (p q : Pos) (old_nodes nodes : List Node) (old_numbers numbers : List ℕ) (label : ℕ) : Type 0 where
  pub node : Node
  pub edge : Bool
  pub free : slice_get old_numbers (place_in_tile m.size t q) ≡ Some no_node
  pub nodes_are : nodes ≡ old_nodes ++ node ∷ []
  pub numbers_are : numbers ≡ slice_set old_numbers (place_in_tile m.size t q) (length old_nodes)
  pub label_is : label ≡ length old_nodes
  pub low : node.low ≡ rank m q
  pub tile_is : node.tile ≡ tile
  pub flows : MatchOption node.flows (IsPit m side node.low) (FlowsTo m side node.low)
  pub tells : TellsEdge m (rank m p) edge
  pub points : node.points ≡ 1
  pub high : node.high ≡ (rank m p).height
  pub least : node.least ≡ (rank m p).height
  pub edge_low : node.edge_low ≡ (if edge then Some (rank m p).height else None)
  pub edge_high : node.edge_high ≡ (if edge then Some (rank m p).height else None)

-- the sink at q has a node, which counts the point at p
pub record AddsToNode (m : Map) (t : ℕ) (p q : Pos) (old_nodes nodes : List Node) (old_numbers numbers : List ℕ) (label : ℕ) : Type 0 where
  pub old : Node
  pub new : Node
  pub edge : Bool
  pub number : slice_get old_numbers (place_in_tile m.size t q) ≡ Some label
  pub taken : label ≢ no_node
  pub at : slice_get old_nodes label ≡ Some old
  pub nodes_are : nodes ≡ slice_set old_nodes label new
  pub numbers_are : numbers ≡ old_numbers
  pub tells : TellsEdge m (rank m p) edge
  pub adds : AddsPoint (rank m p).height edge old new

-- the point at p, whose sink is at q, is counted, and the node has this number
abbrev pub Counts : Map → SideName → ℕ → ℕ → Pos → Pos → List Node → List Node → List ℕ → List ℕ → ℕ → Type 0
Counts m side t tile p q old_nodes nodes old_numbers numbers label = StartsNode m side t tile p q old_nodes nodes old_numbers numbers label ⊎ AddsToNode m t p q old_nodes nodes old_numbers numbers label
