-- Nearest saddles and local heights of the pits of a set on a side.
use Rattle.std.specs.Prelude.{◌≢◌, ◌-ℤ◌, ℕ, List, Option, Some, None, Contains}
use Rattle.std.specs.Int.RustNames.{unsigned_abs}
use Rattle.hd_map.specs.declared.types.Rank.{Rank}
use Rattle.hd_map.specs.declared.types.SideName.{SideName}
use Rattle.hd_map.specs.Map.{Map}
use Rattle.hd_map.specs.Order.{IsNotAbove}
use Rattle.hd_map.specs.Rank.{below_by}
use Rattle.hd_map.specs.Saddle.{IsSaddle}

-- the height difference of a pit and a saddle, taken positive
abbrev pub local_height : Rank → Rank → ℕ
local_height p s = unsigned_abs (s.height -ℤ p.height)

module _ (m : Map) (side : SideName) (kept : List Rank) where
  -- s is the lowest saddle of p and another pit of the set
  pub record IsNearestSaddle (p s : Rank) : Type 0 where
    pub reached : (q : Rank) × Contains kept q × (q ≢ p) × IsSaddle m side p q s
    pub least : (q u : Rank) → Contains kept q → q ≢ p → IsSaddle m side p q u → IsNotAbove (below_by side) s u

  -- the nearest saddle of p, and none where p has no saddle with another pit of the set: there its local
  -- height is infinite
  abbrev pub NearestSaddleIs : Rank → Option Rank → Type 0
  NearestSaddleIs p (Some s) = IsNearestSaddle p s
  NearestSaddleIs p None = (q s : Rank) → Contains kept q → q ≢ p → IsSaddle m side p q s → ⊥
