-- Paths and their tops. A point may stand in a path twice.
use Rattle.std.specs.Prelude.{◌≡◌, Bool, List, [], ◌∷◌, All}
use Rattle.std.specs.List.{Contains}
use Rattle.hd_map.specs.declared.types.Rank.{Rank}
use Rattle.hd_map.specs.Map.{Map}
use Rattle.hd_map.specs.Order.{IsNotAbove}
use Rattle.hd_map.specs.Rank.{IsPoint, Near}

-- from a the points xs lead to b, each near the one before
abbrev pub Leads : {V : Type 0} → (V → V → Type 0) → V → List V → V → Type 0
Leads Next a [] b = a ≡ b
Leads Next a (x ∷ xs) b = Next a x × Leads Next x xs b

-- the highest point of the list
pub record IsTop {V : Type 0} (below : V → V → Bool) (t : V) (xs : List V) : Type 0 where
  pub one_of : Contains xs t
  pub none_above : All (λ x. IsNotAbove below x t) xs

-- the present point a and the points xs are a path to b
pub record IsPath (m : Map) (a : Rank) (xs : List Rank) (b : Rank) : Type 0 where
  pub point : IsPoint m a
  pub leads : Leads (Near m) a xs b
