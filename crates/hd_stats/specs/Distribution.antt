-- How the attributes of significant regions are distributed.
use Rattle.std.specs.Prelude.{◌≡◌, ◌==◌, ◌<◌, ◌*◌, ◌/◌, ◌-◌, ◌-ℤ◌, ℕ, ℤ, pos, int_lt, min, unsigned_abs, if◌then◌else◌, List, [], length, count_by, slice_get, Option, Some, MatchOption}
use Rattle.std.specs.Ordering.{int_eq}
use Rattle.hd_num.specs.declared.frac.Frac.{Frac}
use Rattle.hd_num.specs.Frac.{IsFraction}
use Rattle.hd_feature.specs.declared.notation.Notation.{Notation}
use Rattle.hd_feature.specs.declared.region.Region.{Region}
use Rattle.hd_feature.specs.Value.{attributes, greatest, least}

-- the bin of a value, of so many from 0, where lo and hi are the least and the greatest value: the bins divide the
-- way from lo to hi evenly, each without its upper border but the last
abbrev pub bin_of : ℤ → ℤ → ℕ → ℤ → ℕ
bin_of lo hi bins v = if int_eq lo hi then 0 else min (bins - 1) ((unsigned_abs (v -ℤ lo) * bins) / unsigned_abs (hi -ℤ lo))

-- how many of some values lie in a bin
abbrev pub counted_in : List ℤ → ℕ → ℕ → ℕ
counted_in values bins k = count_by (λ v. bin_of (least values) (greatest values) bins v == k) values

-- by bin, how many of some values lie in it
pub record AreCounts (values : List ℤ) (bins : ℕ) (counts : List ℕ) : Type 0 where
  pub some : 0 < length values
  pub many : length counts ≡ bins
  pub each : (k : ℕ) → k < bins → slice_get counts k ≡ Some (counted_in values bins k)

-- the counts of the values of a notation, whatever its statistic: none exactly where no region is significant
abbrev pub IsHist : Notation → List Region → ℕ → Option (List ℕ) → Type 0
IsHist n regions bins counts = MatchOption counts (attributes n regions ≡ []) (AreCounts (attributes n regions) bins)

-- how many values are greater than a bound
abbrev pub greater : ℤ → List ℤ → ℕ
greater bound values = count_by (λ v. int_lt bound v) values

-- the fraction is the share of some values that are greater than the bound
pub record IsShare (values : List ℤ) (bound : ℤ) (f : Frac) : Type 0 where
  pub some : 0 < length values
  pub fraction : IsFraction (pos (greater bound values)) (length values) f.num f.den

-- the share of the values of a notation: none exactly where no region is significant
abbrev pub IsPerc : Notation → List Region → ℤ → Option Frac → Type 0
IsPerc n regions bound share = MatchOption share (attributes n regions ≡ []) (IsShare (attributes n regions) bound)
