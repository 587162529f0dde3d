-- Reliefs beside one another.
use Rattle.std.specs.Prelude.{◌≡◌, ◌≤ℤ◌, ℤ, Some}
use Rattle.hd_map.specs.declared.types.Pos.{Pos}
use Rattle.hd_map.specs.declared.types.Size.{Size}
use Rattle.hd_map.specs.Map.{InGrid}
use Rattle.hd_morph.specs.Filter.{Relief}

-- the two have the same present points
pub record HaveSamePoints (s : Size) (f g : Relief) : Type 0 where
  pub there : (p : Pos) → InGrid s p → (z : ℤ) → f p ≡ Some z → (y : ℤ) × (g p ≡ Some y)
  pub back : (p : Pos) → InGrid s p → (z : ℤ) → g p ≡ Some z → (y : ℤ) × (f p ≡ Some y)

-- f is at no present point above g
pub record IsNowhereAbove (s : Size) (f g : Relief) : Type 0 where
  pub each : (p : Pos) → InGrid s p → (x y : ℤ) → f p ≡ Some x → g p ≡ Some y → x ≤ℤ y

-- the two are one on the grid
abbrev pub AreSame : Size → Relief → Relief → Type 0
AreSame s f g = (p : Pos) → InGrid s p → f p ≡ g p
