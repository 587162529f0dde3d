-- The value of a notation: significant regions, their attributes, and a statistic of these.
use Rattle.std.specs.Prelude.{◌≡◌, ◌⊎◌, ◌<◌, ◌&&◌, ◌||◌, ◌+ℤ◌, ℕ, ℤ, pos, Bool, true, false, not, nat_lt, int_lt, int_le, List, [], ◌∷◌, length, map, filter, fold, count_by, Option, Some, None, MatchOption, if◌then◌else◌}
use Rattle.std.specs.Int.{int_max, int_min}
use Rattle.std.specs.Ordering.{int_eq}
use Rattle.hd_num.specs.declared.frac.Frac.{Frac}
use Rattle.hd_num.specs.Frac.{IsFraction}
use Rattle.hd_feature.specs.declared.notation.Attribute.{Attribute}
use Rattle.hd_feature.specs.declared.notation.Attribute.TheVariants.{Lpvh, Count, AreaE}
use Rattle.hd_feature.specs.declared.notation.Kind.{Kind}
use Rattle.hd_feature.specs.declared.notation.Notation.{Notation}
use Rattle.hd_feature.specs.declared.notation.Significance.{Significance}
use Rattle.hd_feature.specs.declared.notation.Significance.TheVariants as significance
use Rattle.hd_feature.specs.declared.notation.Statistic.{Statistic}
use Rattle.hd_feature.specs.declared.notation.Statistic.TheVariants.{Mean, Max, Min, Density}
use Rattle.hd_feature.specs.declared.region.Region.{Region}
use Rattle.hd_feature.specs.Notation.{takes_hills}

-- whether a region comes before another: it has the greater local height, or the same and the lesser
-- index
abbrev pub comes_before : Region → Region → Bool
comes_before a b = int_lt b.lpvh a.lpvh || (int_eq a.lpvh b.lpvh && nat_lt a.pit.index b.pit.index)

-- whether a region is one of the first n: fewer than n regions come before it
abbrev pub is_among : List Region → ℕ → Region → Bool
is_among regions n r = nat_lt (count_by (λ a. comes_before a r) regions) n

abbrev pub is_at_least : ℤ → Option ℤ → Bool
is_at_least c None = false
is_at_least c (Some height) = int_le c height

abbrev pub is_at_most : ℤ → Option ℤ → Bool
is_at_most c None = false
is_at_most c (Some height) = int_le height c

-- whether a region is open at a height: a hill has an edge point at least as high, a dale one at most
-- as high
abbrev pub is_open : Kind → ℤ → Region → Bool
is_open kind c r = if takes_hills kind then is_at_least c r.edge_high else is_at_most c r.edge_low

-- whether a region is significant
abbrev pub is_significant : Kind → Significance → List Region → Region → Bool
is_significant kind significance.All regions r = true
is_significant kind (significance.Top n) regions r = is_among regions n r
is_significant kind (significance.Bot n) regions r = is_among regions n r
is_significant kind (significance.Closed c) regions r = not (is_open kind c r)
is_significant kind (significance.Open c) regions r = is_open kind c r

-- what an attribute takes of a region
abbrev pub attribute : Attribute → Region → ℤ
attribute Lpvh r = r.lpvh
attribute Count r = pos 1
attribute AreaE r = pos r.points

-- the attributes of the significant regions
abbrev pub attributes : Notation → List Region → List ℤ
attributes n regions = map (attribute n.attribute) (filter (is_significant n.kind n.significance regions) regions)

abbrev pub total : List ℤ → ℤ
total = fold ◌+ℤ◌ (pos 0)

-- the greatest of some numbers
abbrev pub greatest : List ℤ → ℤ
greatest [] = pos 0
greatest (x ∷ xs) = fold int_max x xs

-- the least of some numbers
abbrev pub least : List ℤ → ℤ
least [] = pos 0
least (x ∷ xs) = fold int_min x xs

-- a statistic of some numbers is this over
abbrev pub over : Statistic → List ℤ → ℤ
over Max values = greatest values
over Min values = least values
over statistic values = total values

-- that; the definition area is a number of points
abbrev pub under : Statistic → List ℤ → ℕ → ℕ
under Mean values area = length values
under Density values area = area
under statistic values area = 1

-- the fraction is the statistic of some numbers on a surface with points
pub record IsStatistic (statistic : Statistic) (values : List ℤ) (area : ℕ) (f : Frac) : Type 0 where
  pub values_some : 0 < length values
  pub area_some : 0 < area
  pub fraction : IsFraction (over statistic values) (under statistic values area) f.num f.den

-- the value of a notation: none exactly where no region is significant or no point is present
abbrev pub IsValue : Notation → List Region → ℕ → Option Frac → Type 0
IsValue n regions area value = MatchOption value ((attributes n regions ≡ []) ⊎ (area ≡ 0)) (IsStatistic n.statistic (attributes n regions) area)

-- the same value, by numerator and denominator
abbrev pub AreSameValues : Option Frac → Option Frac → Type 0
AreSameValues (Some f) (Some g) = (f.num ≡ g.num) × (f.den ≡ g.den)
AreSameValues (Some f) None = ⊥
AreSameValues None (Some g) = ⊥
AreSameValues None None = Unit {0}
