-- The saddle of two points on a side: the least top of the paths between them.
use Rattle.std.specs.Prelude.{List, ◌∷◌, Option, Some, None}
use Rattle.hd_map.specs.declared.types.Rank.{Rank}
use Rattle.hd_map.specs.declared.types.SideName.{SideName}
use Rattle.hd_map.specs.Map.{Map}
use Rattle.hd_map.specs.Order.{IsNotAbove}
use Rattle.hd_map.specs.Path.{IsTop, IsPath}
use Rattle.hd_map.specs.Rank.{below_by}

-- s is the top of some path from a to b, and not above the top of any
pub record IsSaddle (m : Map) (side : SideName) (a b s : Rank) : Type 0 where
  pub reached : (xs : List Rank) × IsPath m a xs b × IsTop (below_by side) s (a ∷ xs)
  pub least : (xs : List Rank) (t : Rank) → IsPath m a xs b → IsTop (below_by side) t (a ∷ xs)
      → IsNotAbove (below_by side) s t

-- the saddle of a and b, and none exactly where no path joins them
abbrev pub SaddleIs : Map → SideName → Rank → Rank → Option Rank → Type 0
SaddleIs m side a b (Some s) = IsSaddle m side a b s
SaddleIs m side a b None = (xs : List Rank) → IsPath m a xs b → ⊥
