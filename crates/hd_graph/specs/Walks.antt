-- The least highest pass of the walks between two lows.
use Rattle.std.specs.Prelude.{Bool, List, Option, Some, None}
use Rattle.hd_map.specs.declared.types.Pass.{Pass}
use Rattle.hd_map.specs.declared.types.Rank.{Rank}
use Rattle.hd_map.specs.Order.{IsNotAbove}
use Rattle.hd_map.specs.Path.{IsTop}
use Rattle.hd_map.specs.Walks.{Stride, IsWalk, passes_of}

-- s is the highest pass of some walk from a to b, and not above the highest of any
pub record IsLeastHighest (below : Rank → Rank → Bool) (passes : List Pass) (a b s : Rank) : Type 0 where
  pub reached : (ss : List Stride) × IsWalk passes a ss b × IsTop below s (passes_of ss)
  pub least : (ss : List Stride) (t : Rank) → IsWalk passes a ss b → IsTop below t (passes_of ss)
      → IsNotAbove below s t

-- the least highest pass between a and b, and none exactly where no walk joins them
abbrev pub LeastHighestIs : (Rank → Rank → Bool) → List Pass → Rank → Rank → Option Rank → Type 0
LeastHighestIs below passes a b (Some s) = IsLeastHighest below passes a b s
LeastHighestIs below passes a b None = (ss : List Stride) → IsWalk passes a ss b → ⊥
