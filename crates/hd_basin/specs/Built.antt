-- What is made of a tile that is seen anew.
use Rattle.std.specs.Prelude.{◌≡◌, ◌≢◌, ◌<◌, ◌⊎◌, ◌++◌, ◌∷◌, [], ℕ, List, MatchOption, Option, Some, Contains, AllPairs, length, slice_get}
use Rattle.hd_map.specs.declared.types.Pass.{Pass}
use Rattle.hd_map.specs.declared.types.Pos.{Pos}
use Rattle.hd_map.specs.declared.types.Rank.{Rank}
use Rattle.hd_map.specs.declared.types.SideName.{SideName}
use Rattle.hd_map.specs.declared.types.Size.{Size}
use Rattle.hd_map.specs.Map.{Map, InGrid, Present}
use Rattle.hd_map.specs.Neighbour.{Neighbour}
use Rattle.hd_map.specs.Rank.{rank}
use Rattle.hd_tiles.specs.declared.tiling.Tiling.{Tiling}
use Rattle.hd_tiles.specs.Tile.{tile_of, tile_count}
use Rattle.hd_basin.specs.declared.node.Node.{Node}
use Rattle.hd_basin.specs.declared.part.Part.{Part}
use Rattle.hd_basin.specs.declared.part.Seam.{Seam}
use Rattle.hd_basin.specs.Basin.{IsSink, IsSinkOf, IsNode, IsLabel, IsBasinMeeting, IsBasinPass, tile_at}
use Rattle.hd_basin.specs.declared.ends.End.{End}
use Rattle.hd_basin.specs.declared.frame.Frame.{Frame}
use Rattle.hd_basin.specs.Seams.{IsCandidate}
use Rattle.hd_basin.specs.Sinks.{IsArea, at_place}
use Rattle.hd_basin.specs.Frames.{FitsGrid, HoldsRound, IsRoundOnly}
use Rattle.hd_basin.specs.Views.{ShowSame}
use Rattle.hd_basin.specs.Parts.{inner_passes, IsBetween, IsFresh, IsSeamOf, JoinOthers, NameNodes, label_of, low_of, node_at, place_in_tile}

-- a pass is that between the basins of its two ends
abbrev pub IsRightPass : Map → SideName → ℕ → Pass → Type 0
IsRightPass m side t p = IsBasinPass m side t p.a p.b p.at

-- its nodes, its labels and its passes are those of the map, and its seams those to the fresh tiles; no two basins are
-- joined twice
pub record IsBuilt (m : Map) (side : SideName) (t : ℕ) (stamps : List ℕ) (parts : List Part) (tile : ℕ) (part : Part) : Type 0 where
  pub nodes : (n : Node) → Contains part.nodes n → IsNode m side t n × (n.tile ≡ tile)
  pub once : AllPairs (λ (n u : Node). n.low ≢ u.low) part.nodes
  pub sinks : (s : Rank) → tile_at m.size t s ≡ tile → IsSink m side t s → (n : Node) × Contains part.nodes n × (n.low ≡ s)
  pub names : NameNodes part
  pub labels : (p : Pos) → InGrid m.size p → tile_of m.size t p ≡ tile → IsLabel m side t p (low_of (node_at (Some part) (place_in_tile m.size t p)))
  pub inside : (p : Pass) → Contains (inner_passes part) p → IsRightPass m side t p × (tile_at m.size t p.a ≡ tile) × (tile_at m.size t p.b ≡ tile)
  pub inside_all : (a b u : Rank) → tile_at m.size t a ≡ tile → tile_at m.size t b ≡ tile → a ≢ b → IsBasinMeeting m side t a b u
      → (p : Pass) × Contains (inner_passes part) p × (w : Rank) × IsBetween p a b w
  pub inside_once : AllPairs (λ p q. JoinOthers p q) (inner_passes part)
  pub across : (s : Seam) → Contains part.seams s → IsRightPass m side t s.pass × IsSeamOf m.size t tile s
      × IsFresh stamps parts s.with × (slice_get stamps s.with ≡ Some s.stamp)
  pub across_all : (a b u : Rank) → tile_at m.size t a ≡ tile → IsFresh stamps parts (tile_at m.size t b) → a ≢ b → IsBasinMeeting m side t a b u
      → (s : Seam) × Contains part.seams s × (w : Rank) × IsBetween s.pass a b w
  pub across_once : AllPairs (λ (s u : Seam). JoinOthers s.pass u.pass) part.seams

-- the passes are those between two basins of the tile, one for each two
pub record HasPasses (m : Map) (side : SideName) (t tile : ℕ) (passes : List Pass) : Type 0 where
  pub inside : (p : Pass) → Contains passes p → IsRightPass m side t p × (tile_at m.size t p.a ≡ tile) × (tile_at m.size t p.b ≡ tile)
  pub inside_all : (a b u : Rank) → tile_at m.size t a ≡ tile → tile_at m.size t b ≡ tile → a ≢ b → IsBasinMeeting m side t a b u
      → (p : Pass) × Contains passes p × (w : Rank) × IsBetween p a b w
  pub once : AllPairs (λ p q. JoinOthers p q) passes

-- its nodes, its labels and the passes between its basins are those of the map
pub record IsNoded (m : Map) (side : SideName) (t tile : ℕ) (part : Part) : Type 0 where
  pub nodes : (n : Node) → Contains part.nodes n → IsNode m side t n × (n.tile ≡ tile)
  pub once : AllPairs (λ (n u : Node). n.low ≢ u.low) part.nodes
  pub sinks : (s : Rank) → tile_at m.size t s ≡ tile → IsSink m side t s → (n : Node) × Contains part.nodes n × (n.low ≡ s)
  pub names : NameNodes part
  pub labels : (p : Pos) → InGrid m.size p → tile_of m.size t p ≡ tile → IsLabel m side t p (low_of (node_at (Some part) (place_in_tile m.size t p)))
  pub passes : HasPasses m side t tile (inner_passes part)

-- the basins of other tiles are known where these are fresh
abbrev pub IsKnown : Size → ℕ → List ℕ → List Part → Pos → Type 0
IsKnown s t stamps parts p = IsFresh stamps parts (tile_of s t p)

-- the sink of the point at a position, with the number and the stamp of its tile; none where it is not known, and
-- where no point is present
pub record IsEnd (m : Map) (side : SideName) (t : ℕ) (stamps : List ℕ) (parts : List Part) (p : Pos) (e : End) : Type 0 where
  pub known : IsKnown m.size t stamps parts p
  pub present : Present m p
  pub sink : IsSinkOf m side t (rank m p) e.low
  pub with_is : e.with ≡ tile_of m.size t p
  pub stamp : slice_get stamps e.with ≡ Some e.stamp

abbrev pub EndIs : Map → SideName → ℕ → List ℕ → List Part → Pos → Option End → Type 0
EndIs m side t stamps parts p result = MatchOption result (IsKnown m.size t stamps parts p → Present m p → ⊥) (IsEnd m side t stamps parts p)

-- of the pair one point lies in the tile, and the other, whose basin is known, at one of the first places of a part
pub record IsAsked (m : Map) (t tile : ℕ) (stamps : List ℕ) (parts : List Part) (f : Frame) (k : ℕ) (p q : Pos) : Type 0 where
  pub in_tile : tile_of m.size t p ≡ tile
  pub place : ℕ
  pub before : place < k
  pub at : q ≡ at_place f place
  pub known : IsKnown m.size t stamps parts q

-- or it is that of the point here and one at the first places of another part
abbrev pub IsAskedNext : Map → ℕ → ℕ → List ℕ → List Part → Frame → ℕ → Frame → ℕ → Pos → Pos → Type 0
IsAskedNext m t tile stamps parts f k g i p q = IsAsked m t tile stamps parts f k p q
    ⊎ ((tile_of m.size t p ≡ tile) × (q ≡ at_place f k) × ((h : ℕ) × (h < i) × (p ≡ at_place g h)) × IsKnown m.size t stamps parts q)

-- the pair of two neighbours gives one more candidate, or none where it asks for none
abbrev pub NotesPair : Map → SideName → ℕ → ℕ → List ℕ → List Part → Pos → Pos → List Seam → List Seam → Type 0
NotesPair m side t tile stamps parts p q old new =
    ((new ≡ old) × ((a b : Rank) → Neighbour m p q → IsSinkOf m side t (rank m p) a → IsSinkOf m side t (rank m q) b → a ≢ b → IsKnown m.size t stamps parts q → ⊥))
    ⊎ ((s : Seam) × (new ≡ old ++ s ∷ []) × IsCandidate m side t tile stamps p q s × IsKnown m.size t stamps parts q)

-- what is known of the basins while a tile is seen anew: its own, and those of the fresh tiles
pub record IsSight (m : Map) (side : SideName) (t tile : ℕ) (stamps : List ℕ) (parts : List Part) (part : Part) : Type 0 where
  pub whole : length parts ≡ tile_count m.size t
  pub count : length stamps ≡ tile_count m.size t
  pub fresh : (p : Pos) → InGrid m.size p → IsFresh stamps parts (tile_of m.size t p) → IsLabel m side t p (label_of m.size t parts p)
  pub noded : IsNoded m side t tile part

-- a tile that is not fresh is seen anew by a map that shows it and what is beside it: its positions are those of the area,
-- and the frame has those beside it too
pub record IsSeen (m n : Map) (side : SideName) (stamps : List ℕ) (parts : List Part) (part : Part) (tiling : Tiling) (tile : ℕ) (area frame : Frame) : Type 0 where
  pub size : tiling.size ≡ m.size
  pub sight : IsSight m side tiling.side tile stamps parts part
  pub shows : ShowSame m n tiling.side tile
  pub area_is : IsArea m.size tiling.side tile area
  pub fits : FitsGrid m.size frame
  pub holds : HoldsRound m.size tiling.side tile frame
  pub only : IsRoundOnly m.size tiling.side tile frame
  pub stale : IsFresh stamps parts tile → ⊥
