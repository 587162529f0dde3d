-- The number of some heights, their range and their sum.
use Rattle.std.specs.Prelude.{◌≡◌, ◌≤◌, ◌+◌, ◌*◌, ◌^◌, ◌+ℤ◌, ℕ, ℤ, unsigned_abs, List, length, Option, Some, None}
use Rattle.hd_map.specs.HeightRange.{range_of, widened}
use Rattle.hd_feature.specs.Value.{total}
use Rattle.hd_stats.specs.declared.sums.Sums.{Sums}

-- the number of these heights, their range and their sum
pub record AreSums (heights : List ℤ) (sums : Sums) : Type 0 where
  pub count : sums.count ≡ length heights
  pub range : sums.range ≡ range_of heights
  pub total : sums.total ≡ total heights

-- the sums with one more height, or none
abbrev pub sums_with : Sums → Option ℤ → Sums
sums_with sums None = sums
sums_with sums (Some height) = record { count = sums.count + 1; range = Some (widened sums.range height); total = sums.total +ℤ height }

-- no more than so many heights are summed
pub record AreSmall (sums : Sums) (n : ℕ) : Type 0 where
  pub count : sums.count ≤ n
  pub total : unsigned_abs sums.total ≤ n * 2 ^ 63
