-- What is gathered of the heights, height by height.
use Rattle.std.specs.Prelude.{◌+◌, ◌*ℤ◌, ◌-ℤ◌, ℕ, ℤ, pos, int_le, unsigned_abs, Option, Some, None, if◌then◌else◌}
use Rattle.hd_stats.specs.declared.sums.Sums.{Sums}

-- so many times a height less the mean height, as heights are summed
abbrev pub deviation_by : Sums → ℤ → ℤ
deviation_by sums h = h *ℤ pos sums.count -ℤ sums.total

-- a sum of absolute values of these with that of one more height, or none
abbrev pub deviations_with : ℕ → Sums → Option ℤ → ℕ
deviations_with sum sums None = sum
deviations_with sum sums (Some h) = sum + unsigned_abs (deviation_by sums h)

-- a count of heights that are at least c with one more height, or none
abbrev pub at_least_with : ℕ → ℤ → Option ℤ → ℕ
at_least_with count c None = count
at_least_with count c (Some h) = if int_le c h then count + 1 else count
