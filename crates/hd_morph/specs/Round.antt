-- The greatest of the heights of a rectangle round a position of a grid.
use Rattle.std.specs.Prelude.{◌≡◌, ◌<◌, ◌≤◌, ◌+◌, ◌*◌, ℕ, ℤ, List, length, Option, Some}
use Rattle.hd_map.specs.declared.types.Pos.{Pos}
use Rattle.hd_map.specs.declared.types.Size.{Size}
use Rattle.hd_map.specs.Map.{InGrid}
use Rattle.hd_morph.specs.Greatest.{IsGreatest}
use Rattle.hd_morph.specs.Plain.{value_at, relief}

-- two numbers differ by at most reach
pub record IsNear (reach a b : ℕ) : Type 0 where
  pub not_after : b ≤ a + reach
  pub not_before : a ≤ b + reach

-- z is a height of the same row, at most reach columns off
pub record IsInRow (s : Size) (reach : ℕ) (heights : List (Option ℤ)) (p : Pos) (z : ℤ) : Type 0 where
  pub column : ℕ
  pub inside : column < s.points
  pub near : IsNear reach p.x column
  pub is : value_at heights (p.y * s.points + column) ≡ Some z

-- at each position the greatest of the heights of its row that are near
pub record AreRowGreatests (s : Size) (reach : ℕ) (heights tops : List (Option ℤ)) : Type 0 where
  pub whole : length tops ≡ length heights
  pub each : (p : Pos) → InGrid s p → IsGreatest (IsInRow s reach heights p) (relief s tops p)

-- z is a height at most across columns and down rows off
pub record IsRound (s : Size) (across down : ℕ) (heights : List (Option ℤ)) (p : Pos) (z : ℤ) : Type 0 where
  pub at : Pos
  pub inside : InGrid s at
  pub columns : IsNear across p.x at.x
  pub rows : IsNear down p.y at.y
  pub is : relief s heights at ≡ Some z

-- at each position the greatest of the heights round it
pub record AreRoundGreatests (s : Size) (across down : ℕ) (heights tops : List (Option ℤ)) : Type 0 where
  pub whole : length tops ≡ length heights
  pub each : (p : Pos) → InGrid s p → IsGreatest (IsRound s across down heights p) (relief s tops p)
