-- Walks from low to low over passes.
use Rattle.std.specs.Prelude.{◌≡◌, ◌⊎◌, Bool, List, [], ◌∷◌, map, All, Contains}
use Rattle.hd_map.specs.declared.types.Pass.{Pass}
use Rattle.hd_map.specs.declared.types.Rank.{Rank}
use Rattle.hd_map.specs.Order.{IsNotAbove}

-- a pass at w joins a and b, whichever of them it names first
abbrev pub HasPass : List Pass → Rank → Rank → Rank → Type 0
HasPass passes a b w = Contains passes (record { a = a; b = b; at = w })
    ⊎ Contains passes (record { a = b; b = a; at = w })

-- a stride of a walk: where it leads, and over which pass
pub record Stride : Type 0 where
  pub to : Rank
  pub at : Rank

-- the strides lead from a to b
abbrev pub IsWalk : List Pass → Rank → List Stride → Rank → Type 0
IsWalk passes a [] b = a ≡ b
IsWalk passes a (s ∷ ss) b = HasPass passes a s.to s.at × IsWalk passes s.to ss b

-- the passes of a walk
abbrev pub passes_of : List Stride → List Rank
passes_of ss = map {A = Stride} {B = Rank} (λ s. s.at) ss

-- a walk leads from a to b, and none of its passes is above t
abbrev pub AreJoinedWithin : (Rank → Rank → Bool) → List Pass → Rank → Rank → Rank → Type 0
AreJoinedWithin below passes t a b = (ss : List Stride) × IsWalk passes a ss b
    × All (λ w. IsNotAbove below w t) (passes_of ss)
