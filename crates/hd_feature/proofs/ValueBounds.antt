-- How great sums and means are.
use Rattle.std.proofs.Common.{◌≡◌, ℕ, ℤ, pos, ◌+◌, ◌*◌, ◌<◌, ◌≤◌, ◌+ℤ◌, unsigned_abs, List, [], ◌∷◌, length, map, filter, fold, All, Bool, le_trans}
use Rattle.std.proofs.Common.{mul-le-mul_right, suc-mul, subst, subst₂, arith, zero-add}
use Rattle.std.proofs.lemmas.Int.{ints}
use Rattle.std.proofs.lemmas.List.{length-map}
use Rattle.std.proofs.lemmas.List.Elements.{All-filter, All-head, All-map, All-tail}
use Rattle.std.proofs.lemmas.List.Sums.{count_by-le-length, length-filter}
use Rattle.hd_num.specs.declared.frac.Frac.{Frac}
use Rattle.hd_num.specs.Frac.{IsFraction}
use Rattle.hd_feature.specs.declared.notation.Attribute.{Attribute}
use Rattle.hd_feature.specs.declared.notation.Attribute.TheVariants.{Lpvh}
use Rattle.hd_feature.specs.declared.notation.Statistic.{Statistic}
use Rattle.hd_feature.specs.declared.notation.Statistic.TheVariants.{Mean}
use Rattle.hd_feature.specs.declared.region.Region.{Region}
use Rattle.hd_feature.specs.Value.{IsStatistic, attribute, total}

size_of_sum : (a x : ℤ) → unsigned_abs (a +ℤ x) ≤ unsigned_abs a + unsigned_abs x
size_of_sum a x = omega (arith, ints)

-- a sum, from a number on
total_from : (a : ℤ) (xs : List ℤ) (m : ℕ) → All (λ x. unsigned_abs x ≤ m) xs → unsigned_abs (fold ◌+ℤ◌ a xs) ≤ unsigned_abs a + length xs * m
total_from a [] m all = omega arith
total_from a (x ∷ xs) m all =
    let rest = total_from (a +ℤ x) xs m (All-tail (λ x. unsigned_abs x ≤ m) x xs all) in
    let first = All-head (λ x. unsigned_abs x ≤ m) x xs all in
    let sum = size_of_sum a x in
    let more = suc-mul (length xs) m in
    omega (arith, rest, first, sum, more)

-- the regions that are kept are no more than all
pub filter-few : (p : Region → Bool) (f : Region → ℤ) (rs : List Region) → length (map f (filter p rs)) ≤ length rs
filter-few p f rs = (let mapped = length-map (filter p rs) f in let kept = length-filter p rs in let most = count_by-le-length p rs in omega (arith, mapped, kept, most))

-- the sum of the local heights of those that are kept
pub total-small : (p : Region → Bool) (f : Region → ℤ) (rs : List Region) (m : ℕ) → All (λ r. unsigned_abs (f r) ≤ m) rs → unsigned_abs (total (map f (filter p rs))) ≤ length rs * m
total-small p f rs m all =
    let each = All-map (λ x. unsigned_abs x ≤ m) f (filter p rs) (All-filter p (λ r. unsigned_abs (f r) ≤ m) rs all) in
    let sum = total_from (pos 0) (map f (filter p rs)) m each in
    le_trans (subst (λ n. unsigned_abs (total (map f (filter p rs))) ≤ n) (zero-add (length (map f (filter p rs)) * m)) sum) (mul-le-mul_right m (filter-few p f rs))

-- the mean of their local heights
pub IsStatistic-small : ((n : ℤ) (d : ℕ) (a : ℤ) (b : ℕ) → 0 < d → IsFraction n d a b → (unsigned_abs a ≤ unsigned_abs n) × (b ≤ d))
    → (p : Region → Bool) (rs : List Region) (area m : ℕ) (f : Frac) (a : Attribute) (s : Statistic) → a ≡ Lpvh → s ≡ Mean → All (λ r. unsigned_abs r.lpvh ≤ m) rs
    → IsStatistic s (map (attribute a) (filter p rs)) area f → (unsigned_abs f.num ≤ length rs * m) × (f.den ≤ length rs)
IsStatistic-small law p rs area m f a s lpvh mean all value =
    let mean_value = subst₂ (λ t u. IsStatistic u (map (attribute t) (filter p rs)) area f) lpvh mean value in
    let small = law _ _ f.num f.den mean_value.values_some mean_value.fraction in
    (le_trans small.0 (total-small p (attribute Lpvh) rs m all), le_trans small.1 (filter-few p (attribute Lpvh) rs))
