-- The greatest and the least of the numbers of a family.
use Rattle.std.specs.Prelude.{◌≡◌, ◌≤ℤ◌, ℤ, Option, Some, None}
use Rattle.std.specs.Int.{int_max}

-- v is the greatest of the numbers of a family, and none exactly where the family has none
pub record IsGreatest (Among : ℤ → Type 0) (v : Option ℤ) : Type 0 where
  pub attained : (z : ℤ) → v ≡ Some z → Among z
  pub reached : (z : ℤ) → Among z → (top : ℤ) × (v ≡ Some top) × (z ≤ℤ top)

-- v is the least of the numbers of a family, and none exactly where the family has none
pub record IsLeast (Among : ℤ → Type 0) (v : Option ℤ) : Type 0 where
  pub attained : (z : ℤ) → v ≡ Some z → Among z
  pub reached : (z : ℤ) → Among z → (low : ℤ) × (v ≡ Some low) × (low ≤ℤ z)

-- the larger of two values, where none is below each number
abbrev pub larger : Option ℤ → Option ℤ → Option ℤ
larger (Some x) (Some y) = Some (int_max x y)
larger (Some x) None = Some x
larger None b = b
