-- The passes between basins: where two basins have neighbouring members, the lowest, over such pairs,
-- of the higher of the pair.
use Rattle.std.specs.Prelude.{◌≡◌, ℕ, true, if◌then◌else◌, List, Option, Some, Contains, AllPairs, slice_get}
use Rattle.hd_map.specs.declared.types.Pass.{Pass}
use Rattle.hd_map.specs.declared.types.Rank.{Rank}
use Rattle.hd_map.specs.declared.types.SideName.{SideName}
use Rattle.hd_map.specs.Map.{Map}
use Rattle.hd_map.specs.Order.{IsNotAbove}
use Rattle.hd_map.specs.Rank.{below_by, IsPoint, Near}

-- the higher of two ranks on the side
abbrev pub higher_by : SideName → Rank → Rank → Rank
higher_by side x y = if below_by side x y then y else x

-- of basins, where In x a says that the point x lies in the basin of a
module _ (m : Map) (side : SideName) (In : Rank → Rank → Type 0) where
  -- w is the higher of two neighbours, one in the basin of a and the other in that of b
  pub record IsMeeting (a b w : Rank) : Type 0 where
    pub from : Rank
    pub to : Rank
    pub near : Near m from to
    pub from_in : In from a
    pub to_in : In to b
    pub higher : w ≡ higher_by side from to

  -- the lower end comes first, and the pass is at the lowest meeting of the two basins
  pub record IsPass (p : Pass) : Type 0 where
    pub ends : below_by side p.a p.b ≡ true
    pub meeting : IsMeeting p.a p.b p.at
    pub lowest : (w : Rank) → IsMeeting p.a p.b w → IsNotAbove (below_by side) p.at w

  -- one pass for each two basins that meet, and no other
  pub record ArePasses (passes : List Pass) : Type 0 where
    pub each : (p : Pass) → Contains passes p → IsPass p
    pub all : (a b w : Rank) → below_by side a b ≡ true → IsMeeting a b w
        → (p : Pass) × Contains passes p × (p.a ≡ a) × (p.b ≡ b)
    pub once : AllPairs (λ p q. p.a ≡ q.a → p.b ≡ q.b → ⊥) passes

-- by labels: by index the index of the basin's low, and none for points of no basin
pub record IsLabelled (m : Map) (labels : List (Option ℕ)) (x a : Rank) : Type 0 where
  pub point : IsPoint m x
  pub low : IsPoint m a
  pub label : slice_get labels x.index ≡ Some (Some a.index)

-- the passes between the basins of the labels
abbrev pub ArePassesUnder : Map → SideName → List (Option ℕ) → List Pass → Type 0
ArePassesUnder m side labels passes = ArePasses m side (IsLabelled m labels) passes
