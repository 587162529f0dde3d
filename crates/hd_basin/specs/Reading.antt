-- What is read off the pool of a whole map.
use Rattle.std.specs.Prelude.{◌≡◌, ◌≢◌, ◌<◌, ℕ, List, MatchOption, Option, Contains, AllPairs}
use Rattle.hd_map.specs.declared.types.Pos.{Pos}
use Rattle.hd_map.specs.declared.types.Rank.{Rank}
use Rattle.hd_map.specs.declared.types.SideName.{SideName}
use Rattle.hd_map.specs.Map.{Map, Present}
use Rattle.hd_map.specs.Passes.{ArePasses}
use Rattle.hd_map.specs.Rank.{rank}
use Rattle.hd_map.specs.Region.{IsPit, IsRoot}
use Rattle.hd_graph.specs.Basins.{AreBasins, AreLowsOf}
use Rattle.hd_graph.specs.Graph.{Net}
use Rattle.hd_basin.specs.declared.node.Node.{Node}
use Rattle.hd_basin.specs.declared.extent.Extent.{Extent}
use Rattle.hd_basin.specs.Basin.{IsSinkOf}
use Rattle.hd_map.specs.EdgePoint.{IsEdge}
use Rattle.hd_basin.specs.Parts.{Pool, HasNode}
use Rattle.hd_map.specs.Sums.{AreSums}

-- the root of the point at a position, and none where no point is present
abbrev pub RootIs : Map → SideName → Pos → Option Pos → Type 0
RootIs m side p result = MatchOption result (Present m p → ⊥) (λ q. Present m p × Present m q × IsRoot m side (rank m p) (rank m q))

-- the node whose sink has this index, and none where no node has such a sink
abbrev pub NodeIs : Pool → ℕ → Option Node → Type 0
NodeIs pool key result = MatchOption result ((tile : ℕ) (n : Node) → HasNode pool.parts tile n → n.low.index ≢ key) (λ n. (n.low.index ≡ key) × ((tile : ℕ) × HasNode pool.parts tile n))

-- the graph of the local basins: they are basins, the lows are their sinks, and the passes are those between them, one
-- for each two that meet
pub record IsGraphOf (m : Map) (side : SideName) (t : ℕ) (net : Net) : Type 0 where
  pub basins : AreBasins m side (IsSinkOf m side t)
  pub lows : AreLowsOf m side (IsSinkOf m side t) net.lows
  pub passes : ArePasses m side (IsSinkOf m side t) net.passes

-- the region of a pit, by what its points sum up to
pub record IsExtent (m : Map) (side : SideName) (e : Extent) : Type 0 where
  pub is_pit : IsPit m side e.pit
  pub sums : AreSums (λ p. IsRoot m side p e.pit) (IsEdge m) e.points e.high e.least e.edge_low e.edge_high

-- the regions of all pits, each once, in position order
pub record AreExtents (m : Map) (side : SideName) (extents : List Extent) : Type 0 where
  pub each : (e : Extent) → Contains extents e → IsExtent m side e
  pub all : (p : Rank) → IsPit m side p → (e : Extent) × Contains extents e × (e.pit ≡ p)
  pub in_order : AllPairs (λ (e f : Extent). e.pit.index < f.pit.index) extents
