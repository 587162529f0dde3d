-- Values that are small enough for a sum.
use Rattle.std.specs.Prelude.{◌≡◌, ◌≤◌, ◌*◌, unsigned_abs}
use Rattle.hd_feature.specs.declared.notation.Attribute.TheVariants.{Lpvh}
use Rattle.hd_feature.specs.declared.notation.Notation.{Notation}
use Rattle.hd_feature.specs.declared.notation.Parameter.{Parameter}
use Rattle.hd_feature.specs.declared.notation.Parameter.TheVariants.{One, Sum}
use Rattle.hd_feature.specs.declared.notation.Statistic.TheVariants.{Mean}
use Rattle.hd_map.specs.Map.{most_cells}
use Rattle.hd_num.specs.declared.frac.Frac.{Frac}
use Rattle.hd_survey.specs.Heights.{farthest_apart}

-- the numerator and the denominator of a fraction are no greater than those of a mean of local heights can be
pub record IsSmall (f : Frac) : Type 0 where
  pub num : unsigned_abs f.num ≤ most_cells * farthest_apart
  pub den : f.den ≤ most_cells

-- the mean of local heights
pub record IsMeanHeight (n : Notation) : Type 0 where
  pub attribute : n.attribute ≡ Lpvh
  pub statistic : n.statistic ≡ Mean

-- if it is a sum, then one of two means of local heights
abbrev pub IsSumOfMeans : Parameter → Type 0
IsSumOfMeans (One n) = Unit {0}
IsSumOfMeans (Sum n k) = IsMeanHeight n × IsMeanHeight k
