-- The places where a basin of a tile meets another: each pair of neighbours with a point in the tile.
use Rattle.std.specs.Prelude.{◌≡◌, ◌≢◌, ℕ, List, Some, AllPairs, Contains, slice_get, if◌then◌else◌}
use Rattle.hd_map.specs.declared.types.Pass.{Pass}
use Rattle.hd_map.specs.declared.types.Pos.{Pos}
use Rattle.hd_map.specs.declared.types.Rank.{Rank}
use Rattle.hd_map.specs.declared.types.SideName.{SideName}
use Rattle.hd_map.specs.Map.{Map}
use Rattle.hd_map.specs.Neighbour.{Neighbour}
use Rattle.hd_map.specs.Order.{IsNotAbove}
use Rattle.hd_map.specs.Passes.{higher_by}
use Rattle.hd_map.specs.Rank.{rank, below_by}
use Rattle.hd_tiles.specs.Tile.{tile_of}
use Rattle.hd_basin.specs.declared.part.Seam.{Seam}
use Rattle.hd_basin.specs.Basin.{IsSinkOf}

-- a pass between two sinks, the lower one first
abbrev pub pass_between : SideName → Rank → Rank → Rank → Pass
pass_between side a b w = if below_by side a b then (record { a = a; b = b; at = w }) else (record { a = b; b = a; at = w })

-- the seam is at a point p of the tile and its neighbour q, between their two basins
pub record IsCandidate (m : Map) (side : SideName) (t tile : ℕ) (stamps : List ℕ) (p q : Pos) (s : Seam) : Type 0 where
  pub near : Neighbour m p q
  pub in_tile : tile_of m.size t p ≡ tile
  pub a : Rank
  pub b : Rank
  pub from : IsSinkOf m side t (rank m p) a
  pub to : IsSinkOf m side t (rank m q) b
  pub apart : a ≢ b
  pub pass_is : s.pass ≡ pass_between side a b (higher_by side (rank m p) (rank m q))
  pub with_is : s.with ≡ tile_of m.size t q
  pub stamp : slice_get stamps s.with ≡ Some s.stamp

-- the seams are those of the pairs that are asked for
pub record AreCandidates (m : Map) (side : SideName) (t tile : ℕ) (stamps : List ℕ) (Asked : Pos → Pos → Type 0) (all : List Seam) : Type 0 where
  pub each : (s : Seam) → Contains all s → (p : Pos) × (q : Pos) × Asked p q × IsCandidate m side t tile stamps p q s
  pub every : (p q : Pos) (a b : Rank) → Asked p q → Neighbour m p q → IsSinkOf m side t (rank m p) a → IsSinkOf m side t (rank m q) b → a ≢ b
      → (s : Seam) × Contains all s × IsCandidate m side t tile stamps p q s

-- two seams have the same ends
abbrev pub HaveSameEnds : Seam → Seam → Type 0
HaveSameEnds s u = (s.pass.a.index ≡ u.pass.a.index) × (s.pass.b.index ≡ u.pass.b.index)

-- of the seams with the same ends one of the lowest is kept, and no other
pub record KeepLowest (side : SideName) (all kept : List Seam) : Type 0 where
  pub some : (s : Seam) → Contains kept s → Contains all s
  pub lowest : (s u : Seam) → Contains kept s → Contains all u → HaveSameEnds s u → IsNotAbove (below_by side) s.pass.at u.pass.at
  pub each : (u : Seam) → Contains all u → (s : Seam) × Contains kept s × HaveSameEnds s u
  pub once : AllPairs (λ (s u : Seam). HaveSameEnds s u → ⊥) kept
