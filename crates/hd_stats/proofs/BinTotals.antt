-- The counts of bins add up to the number of values.
use Rattle.std.proofs.Common.{◌≡◌, ◌<◌, ◌≤◌, ◌+◌, ◌-◌, ◌-ℤ◌, ◌*◌, ◌/◌, unsigned_abs, ◌==◌, ◌∙◌, ℕ, ℤ, zero, suc, List, [], ◌∷◌, length, map, cond, Bool, true, false, min, inl, inr, refl, ap, arith}
use Rattle.std.specs.List.{count_by, range_with_len, sum, sum_by}
use Rattle.std.specs.Ordering.{int_eq}
use Rattle.std.proofs.lemmas.Bool.{cases_lt}
use Rattle.std.proofs.lemmas.List.FromFn.{fill_by_all}
use Rattle.std.proofs.lemmas.List.Sums.{sum-map, sum_by-cons, sum_by_push}
use Rattle.std.proofs.lemmas.Option.{get_or_from_slice_get}
use Rattle.hd_feature.specs.Value.{greatest, least}
use Rattle.hd_stats.specs.Distribution.{AreCounts, bin_of, counted_in}
use Rattle.hd_stats.proofs.AddedVolumes.{range_with_len-push}
use Rattle.hd_stats.proofs.Bins.{one_at, one_at-other, one_at-same}

-- the bins below n
abbrev over_bins : (ℕ → ℕ) → ℕ → ℕ
over_bins g n = sum_by g (range_with_len 0 n)

bins-push : (g : ℕ → ℕ) (n : ℕ) → over_bins g (n + 1) ≡ over_bins g n + g n
bins-push g n = ap (sum_by g) (range_with_len-push 0 n n (omega arith)) ∙ sum_by_push g (range_with_len 0 n) n

bins-next : (g : ℕ → ℕ) (n : ℕ) → over_bins g (suc n) ≡ over_bins g n + g n
bins-next g n = ap (over_bins g) (let same : suc n ≡ n + 1 = omega arith in same) ∙ bins-push g n

-- a bin that is not among them
none-at : (b n : ℕ) → n ≤ b → over_bins (one_at b) n ≡ 0
none-at b zero past = refl
none-at b (suc n) past = (let more = bins-next (one_at b) n in let rest = none-at b n (omega (arith, past)) in let here = one_at-other b n (λ e. omega (arith, e, past)) in omega
    (arith, more, rest, here))

-- a bin among them is one of them
one-among : (b n : ℕ) → b < n → over_bins (one_at b) n ≡ 1
one-among b zero below = absurd (omega arith)
one-among b (suc n) below = let more = bins-next (one_at b) n in elim (cases_lt b n) [
  | inl less ↦ (let rest = one-among b n less in let here = one_at-other b n (λ e. omega (arith, e, less)) in omega (arith, more, rest, here))
  | inr last ↦ (let rest = none-at b n last in let here = one_at-same b n (omega (arith, below, last)) in omega (arith, more, rest, here))
]

sum-both : (g h : ℕ → ℕ) (ks : List ℕ) → sum_by (λ k. g k + h k) ks ≡ sum_by g ks + sum_by h ks
sum-both g h [] = refl
sum-both g h (k ∷ ks) = (let rest = sum-both g h ks in let a = sum_by-cons (λ k. g k + h k) k ks in let b = sum_by-cons g k ks in let d = sum_by-cons h k ks in omega (arith, rest, a, b, d))

sum-agree : (g h : ℕ → ℕ) → ((k : ℕ) → g k ≡ h k) → (ks : List ℕ) → sum_by g ks ≡ sum_by h ks
sum-agree g h same [] = refl
sum-agree g h same (k ∷ ks) = (let rest = sum-agree g h same ks in let a = sum_by-cons g k ks in let b = sum_by-cons h k ks in let here = same k in omega (arith, rest, a, b, here))

-- where each value lies in a bin below n
module _ (f : ℤ → ℕ) (n : ℕ) (within : (v : ℤ) → f v < n) where
  values-binned : (values : List ℤ) → over_bins (λ k. count_by (λ v. f v == k) values) n ≡ length values
  values-binned [] = nothing (range_with_len 0 n)
    where
      nothing : (ks : List ℕ) → sum_by (λ k. 0) ks ≡ 0
      nothing [] = refl
      nothing (k ∷ ks) = (let rest = nothing ks in let a = sum_by-cons (λ (k : ℕ). 0) k ks in omega (arith, rest, a))
  values-binned (v ∷ vs) =
      let split = sum-agree (λ k. count_by (λ v. f v == k) (v ∷ vs)) (λ k. one_at (f v) k + count_by (λ v. f v == k) vs) (λ k. sum_by-cons (λ v. one_at (f v) k) v vs) (range_with_len 0 n) in
      let both = sum-both (one_at (f v)) (λ k. count_by (λ v. f v == k) vs) (range_with_len 0 n) in
      let one = one-among (f v) n (within v) in
      let rest = values-binned vs in
      omega (arith, split, both, one, rest)

-- a value lies in one of the bins
bin-within : (lo hi : ℤ) (bins : ℕ) (v : ℤ) → 1 ≤ bins → bin_of lo hi bins v < bins
bin-within lo hi bins v some = by (int_eq lo hi)
  where
    by : (b : Bool) → cond b 0 (min (bins - 1) (unsigned_abs (v -ℤ lo) * bins / unsigned_abs (hi -ℤ lo))) < bins
    by true = omega (arith, some)
    by false = omega (arith, some)

-- the counts by bin
pub counted_in-listed : (values : List ℤ) (bins : ℕ) (counts : List ℕ) → AreCounts values bins counts → counts ≡ map (counted_in values bins) (range_with_len 0 bins)
counted_in-listed values bins counts are = fill_by_all (counted_in values bins) counts bins 0 are.many (λ k below. get_or_from_slice_get counts k (counted_in values bins k) 0 (are.each k below))

pub AreCounts-total : (values : List ℤ) (bins : ℕ) (counts : List ℕ) → 1 ≤ bins → AreCounts values bins counts → sum counts ≡ length values
AreCounts-total values bins counts some are =
    ap sum (counted_in-listed values bins counts are) ∙ sum-map (counted_in values bins) (range_with_len 0 bins)
    ∙ values-binned (bin_of (least values) (greatest values) bins) bins (λ v. bin-within (least values) (greatest values) bins v some) values
