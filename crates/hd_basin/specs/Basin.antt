-- Local sinks, local basins, their nodes, and the passes between them.
use Rattle.std.specs.Prelude.{◌≡◌, ◌≢◌, ℕ, List, [], ◌∷◌, MatchOption, Option, Some, None}
use Rattle.hd_map.specs.declared.types.Pos.{Pos}
use Rattle.hd_map.specs.declared.types.Rank.{Rank}
use Rattle.hd_map.specs.declared.types.Size.{Size}
use Rattle.hd_map.specs.declared.types.SideName.{SideName}
use Rattle.hd_map.specs.Map.{Map, Present, position_at}
use Rattle.hd_map.specs.Order.{IsNotAbove}
use Rattle.hd_map.specs.Passes.{IsMeeting}
use Rattle.hd_map.specs.Rank.{rank, below_by, IsPoint}
use Rattle.hd_map.specs.Region.{IsNext, IsPit}
use Rattle.hd_tiles.specs.Tile.{tile_of}
use Rattle.hd_basin.specs.declared.node.Node.{Node}
use Rattle.hd_map.specs.EdgePoint.{IsEdge}
use Rattle.hd_map.specs.Sums.{AreSums}

-- the number of the tile that the point of a rank lies in
abbrev pub tile_at : Size → ℕ → Rank → ℕ
tile_at s t r = tile_of s t (position_at s r.index)

-- a point whose next is none or in another tile
pub record IsSink (m : Map) (side : SideName) (t : ℕ) (p : Rank) : Type 0 where
  pub point : IsPoint m p
  pub leaves : (q : Rank) → IsNext m side p q → tile_at m.size t q ≢ tile_at m.size t p

-- the list goes from p through nexts inside the tile and ends in the sink s
abbrev pub AreNextsInside : Map → SideName → ℕ → Rank → List Rank → Rank → Type 0
AreNextsInside m side t p [] s = (p ≡ s) × IsSink m side t p
AreNextsInside m side t p (q ∷ qs) s = IsNext m side p q × (tile_at m.size t q ≡ tile_at m.size t p) × AreNextsInside m side t q qs s

-- p lies in the local basin of the sink s
abbrev pub IsSinkOf : Map → SideName → ℕ → Rank → Rank → Type 0
IsSinkOf m side t p s = (path : List Rank) × AreNextsInside m side t p path s

-- the next of s is at the position q
pub record FlowsTo (m : Map) (side : SideName) (s : Rank) (q : Pos) : Type 0 where
  pub to : Rank
  pub is_next : IsNext m side s to
  pub at : q ≡ position_at m.size to.index

-- the node of a local basin
pub record IsNode (m : Map) (side : SideName) (t : ℕ) (n : Node) : Type 0 where
  pub sink : IsSink m side t n.low
  pub tile : n.tile ≡ tile_at m.size t n.low
  pub flows : MatchOption n.flows (IsPit m side n.low) (FlowsTo m side n.low)
  pub sums : AreSums (λ p. IsSinkOf m side t p n.low) (IsEdge m) n.points n.high n.least n.edge_low n.edge_high

-- w is the higher of a point of the basin of a and a neighbour of it in the basin of b
abbrev pub IsBasinMeeting : Map → SideName → ℕ → Rank → Rank → Rank → Type 0
IsBasinMeeting m side t a b w = IsMeeting m side (IsSinkOf m side t) a b w

-- w is the pass between the basins of a and b: the lowest point at which they meet
pub record IsBasinPass (m : Map) (side : SideName) (t : ℕ) (a b w : Rank) : Type 0 where
  pub apart : a ≢ b
  pub meeting : IsBasinMeeting m side t a b w
  pub lowest : (u : Rank) → IsBasinMeeting m side t a b u → IsNotAbove (below_by side) w u

-- the sink of the basin that the point at a position lies in, and none where no point is present
abbrev pub IsLabel : Map → SideName → ℕ → Pos → Option Rank → Type 0
IsLabel m side t p (Some s) = Present m p × IsSinkOf m side t (rank m p) s
IsLabel m side t p None = Present m p → ⊥
