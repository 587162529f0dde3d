-- Values counted by bins, value by value.
use Rattle.std.proofs.Common.{◌≡◌, ◌<◌, ◌≤◌, ◌+◌, ◌*◌, ◌/◌, ◌-◌, ◌-ℤ◌, ◌==◌, unsigned_abs, min, false, ap₂, ◌∙◌, ℕ, ℤ, List, length, get_or, set, take, cond, Some, inl, inr, subst, ap, sym, arith}
use Rattle.std.specs.List.{count_by}
use Rattle.std.specs.Ordering.{int_eq}
use Rattle.std.proofs.lemmas.Bool.Decides.{nat_tests}
use Rattle.std.proofs.lemmas.Int.{ints}
use Rattle.std.proofs.lemmas.Bool.{cases_eq}
use Rattle.std.proofs.lemmas.List.{get_or-set_other, get_or-set_same, length-take, take_all, take_more}
use Rattle.std.proofs.lemmas.List.Sums.{count_by-le-length, sum_by_push}
use Rattle.std.proofs.lemmas.Grind.{get_or_default_zero}
use Rattle.std.proofs.lemmas.Option.{slice_get-get_or}
use Rattle.hd_feature.specs.Value.{greatest, least}
use Rattle.hd_stats.specs.Distribution.{AreCounts, bin_of}

-- one where two numbers are the same
abbrev pub one_at : ℕ → ℕ → ℕ
one_at a k = cond (a == k) 1 0

pub one_at-same : (a k : ℕ) → a ≡ k → one_at a k ≡ 1
one_at-same a k e = grind (arith, nat_tests)

pub one_at-other : (a k : ℕ) → (a ≡ k → ⊥) → one_at a k ≡ 0
one_at-other a k e = grind (arith, nat_tests)

module _ (f : ℤ → ℕ) where
  -- one more value
  pub count_by-more : (values : List ℤ) (i : ℕ) (d : ℤ) (counts : List ℕ) (bins : ℕ) → i < length values → length counts ≡ bins → f (get_or values i d) < bins
      → ((k : ℕ) → k < bins → get_or counts k 0 ≡ count_by (λ v. f v == k) (take i values))
      → (k : ℕ) → k < bins → get_or (set counts (f (get_or values i d)) (get_or counts (f (get_or values i d)) 0 + 1)) k 0 ≡ count_by (λ v. f v == k) (take (i + 1) values)
  count_by-more values i d counts bins inside whole within each k below =
      let x : ℤ = get_or values i d in
      let b : ℕ = f x in
      let more : count_by (λ v. f v == k) (take (i + 1) values) ≡ count_by (λ v. f v == k) (take i values) + one_at b k =
      ap (count_by (λ v. f v == k)) (take_more values i d inside) ∙ sum_by_push (λ v. one_at (f v) k) (take i values) x in
      elim (cases_eq k b) [
        | inl same ↦
            let here = get_or-set_same counts b (get_or counts b 0 + 1) 0 (omega (arith, within, whole)) in
            let one = one_at-same b k (sym same) in
            let was = each k below in
            let at : get_or counts b 0 ≡ get_or counts k 0 = ap (λ j. get_or counts j 0) (sym same) in
            let read : get_or (set counts b (get_or counts b 0 + 1)) k 0 ≡ get_or counts b 0 + 1 = ap (λ j. get_or (set counts b (get_or counts b 0 + 1)) j 0) same ∙ here in
            omega (arith, more, one, was, at, read)
        | inr other ↦
            let kept = get_or-set_other counts b k (get_or counts b 0 + 1) 0 other in
            let none = one_at-other b k (λ e. other (sym e)) in
            let was = each k below in
            omega (arith, more, none, was, kept)
      ]

  -- the same with the bin and the count that were read
  pub count_by-next : (values : List ℤ) (i : ℕ) (d : ℤ) (counts : List ℕ) (bins bin now : ℕ) → i < length values → length counts ≡ bins → bin < bins → bin ≡ f (get_or values i d)
      → now ≡ get_or counts bin now
      → ((k : ℕ) → k < bins → get_or counts k 0 ≡ count_by (λ v. f v == k) (take i values)) → (k : ℕ) → k < bins
      → get_or (set counts bin (now + 1)) k 0 ≡ count_by (λ v. f v == k) (take (i + 1) values)
  count_by-next values i d counts bins bin now inside whole within is read each k below =
      let was : now ≡ get_or counts bin 0 = read ∙ get_or_default_zero counts bin now (omega (arith, within, whole)) in
      ap₂ (λ b n. get_or (set counts b (n + 1)) k 0) is (was ∙ ap (λ b. get_or counts b 0) is) ∙ count_by-more values i d counts bins inside whole (subst (λ b. b < bins) is within) each k below

  -- a count is no greater than the number of values
  pub count_by-few : (values : List ℤ) (i : ℕ) (counts : List ℕ) (bins bin now : ℕ) → length counts ≡ bins → bin < bins → now ≡ get_or counts bin now
      → ((k : ℕ) → k < bins → get_or counts k 0 ≡ count_by (λ v. f v == k) (take i values)) → now ≤ i
  count_by-few values i counts bins bin now whole within read each = (let is : now ≡ count_by (λ v. f v == bin) (take i values) = read
      ∙ get_or_default_zero counts bin now (omega (arith, within, whole)) ∙ each bin within in let k : ℕ = bin in let most = count_by-le-length (λ v. f v == k) (take i values) in
      let long = length-take i values in omega (arith, is, most, long))

ints_apart : (a b : ℤ) → (a ≡ b → ⊥) → int_eq a b ≡ false
ints_apart a b h = grind (arith, ints, nat_tests)

-- the bin where the least and the greatest value are different
pub bin_of-apart : (lo hi : ℤ) (bins : ℕ) (v : ℤ) (over under most place : ℕ) → (lo ≡ hi → ⊥) → over ≡ unsigned_abs (v -ℤ lo) → under ≡ unsigned_abs (hi -ℤ lo) → most ≡ bins - 1
    → place ≡ over * bins / under
    → min most place ≡ bin_of lo hi bins v
bin_of-apart lo hi bins v over under most place apart is is' is_most at =
    ap₂ min is_most (at ∙ ap₂ (λ n d. n * bins / d) is is') ∙ ap (λ b. cond b 0 (min (bins - 1) (unsigned_abs (v -ℤ lo) * bins / unsigned_abs (hi -ℤ lo)))) (sym (ints_apart lo hi apart))

-- all values were counted
pub AreCounts-bins : (values : List ℤ) (i bins : ℕ) (counts : List ℕ) → 0 < length values → length values ≤ i → length counts ≡ bins
    → ((k : ℕ) → k < bins → get_or counts k 0 ≡ count_by (λ v. bin_of (least values) (greatest values) bins v == k) (take i values)) → AreCounts values bins counts
AreCounts-bins values i bins counts some past whole each = record {
  some = some;
  many = whole;
  each = λ k below. slice_get-get_or counts k 0 (omega (arith, below, whole)) ∙ ap Some
      (each k below ∙ ap (count_by (λ v. bin_of (least values) (greatest values) bins v == k)) (take_all i values past));
}
