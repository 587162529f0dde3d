-- The highest points of chains of parents.
use Rattle.std.specs.Prelude.{◌≡◌, ◌<◌, ℕ, ℤ, pos, int_lt, List, ◌∷◌, map, slice_index_or, if◌then◌else◌}
use Rattle.hd_map.specs.declared.types.Rank.{Rank}
use Rattle.hd_map.specs.declared.types.SideName.{SideName}
use Rattle.hd_map.specs.declared.types.SideName.TheVariants.{Dales, Hills}
use Rattle.hd_map.specs.Map.{Map}
use Rattle.hd_map.specs.Path.{IsTop}
use Rattle.hd_map.specs.Rank.{below_by}
use Rattle.hd_audit.specs.declared.types.AuditLine.{AuditLine}
use Rattle.hd_audit.specs.Lines.{line_at, rank_at, AreParents}

-- top is the highest point on the chain of parents from the point of an index
pub record IsChainTop (m : Map) (side : SideName) (lines : List AuditLine) (i : ℕ) (top : Rank) : Type 0 where
  pub chain : List ℕ
  pub are_parents : AreParents lines i chain
  pub is_top : IsTop (below_by side) top (map (rank_at m) (i ∷ chain))

-- the height of the highest point on the chain of parents from the point of an index
pub record IsTopHeight (m : Map) (side : SideName) (lines : List AuditLine) (i : ℕ) (height : ℤ) : Type 0 where
  pub top : Rank
  pub is_top : IsChainTop m side lines i top
  pub height_is : top.height ≡ height

-- the heights of those of the first n lines stand at the indexes of their points
abbrev pub AreTopHeights : Map → SideName → List AuditLine → List ℤ → ℕ → Type 0
AreTopHeights m side lines heights n = (k : ℕ) → k < n → IsTopHeight m side lines (line_at lines k).index (slice_index_or heights (line_at lines k).index (pos 0))

-- the height of the higher of two points with these heights
abbrev pub higher_height : SideName → ℤ → ℤ → ℤ
higher_height Dales a b = if int_lt a b then b else a
higher_height Hills a b = if int_lt b a then b else a
