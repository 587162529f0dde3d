-- Nodes by their tiles and their numbers.
use Rattle.std.specs.Prelude.{◌≡◌, ◌+◌, ℕ, List, MatchOption, Option, Some, None, slice_get}
use Rattle.hd_map.specs.declared.types.Pos.{Pos}
use Rattle.hd_basin.specs.declared.node.Node.{Node}
use Rattle.hd_basin.specs.declared.part.Part.{Part}
use Rattle.hd_basin.specs.declared.spot.Spot.{Spot}
use Rattle.hd_basin.specs.Parts.{Pool, node_of}
use Rattle.hd_basin.specs.Roots.{nodes_before}

-- the node of a number in a tile
abbrev pub node_in : Option Part → ℕ → Option Node
node_in None number = None
node_in (Some part) number = slice_get part.nodes number

abbrev pub node_named : List Part → Spot → Option Node
node_named parts s = node_in (slice_get parts s.tile) s.number

-- there is such a node
abbrev pub IsSpot : List Part → Spot → Type 0
IsSpot parts s = (n : Node) × (node_named parts s ≡ Some n)

-- its place among the nodes of all tiles
abbrev pub place_of_node : List Part → Spot → ℕ
place_of_node parts s = nodes_before parts s.tile + s.number

-- it is the node that the pool has for a position, and none where the pool has none
abbrev pub SpotIs : Pool → Pos → Option Spot → Type 0
SpotIs pool p result = MatchOption result (node_of pool.size pool.side pool.parts p ≡ None)
    (λ s. IsSpot pool.parts s
    × (node_named pool.parts s ≡ node_of pool.size pool.side pool.parts p))
