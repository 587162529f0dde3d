-- The first of the regions, by the key of the last of them.
use Rattle.std.proofs.Common.{◌≡◌, ℕ, suc, ◌+◌, ◌<◌, ◌≤◌, ◌&&◌, not, nat_lt, List, [], ◌∷◌, ◌++◌, length, get_or, map, Bool, true, false, cond, Some, arith, refl, sym, ap, ◌∙◌, inl, inr, lt-ltb}
use Rattle.std.specs.Cmp.{IsStrictWeakOrder}
use Rattle.std.specs.List.{count_by}
use Rattle.std.specs.List.Sorted.{IsPermutation, IsSplitAroundBy}
use Rattle.std.proofs.lemmas.Bool.{cases_Bool}
use Rattle.std.proofs.lemmas.Bool.Decides.{nat_tests}
use Rattle.std.proofs.lemmas.Int.{ints}
use Rattle.std.proofs.lemmas.List.Sorted.{sum_by-IsPermutation}
use Rattle.std.proofs.lemmas.List.Sums.{count_by-le-length, sum_by-append, sum_by-cons}
use Rattle.hd_feature.specs.declared.region.Region.{Region}
use Rattle.hd_feature.specs.declared.significance.RegionKey.{RegionKey}
use Rattle.hd_feature.specs.Cut.{is_ahead, is_within, key_of}
use Rattle.hd_feature.specs.Value.{comes_before, is_among}

one_way : (x y : RegionKey) → is_ahead x y ≡ true → is_ahead y x ≡ false
one_way x y h = grind (arith, ints, nat_tests)

chain : (x y z : RegionKey) → is_ahead x y ≡ false → is_ahead y z ≡ false → is_ahead x z ≡ false
chain x y z h g = grind (arith, ints, nat_tests)

-- the order of keys is strict, and weak where two regions have one index
pub ahead-order : IsStrictWeakOrder is_ahead
ahead-order = record { one_way = one_way; chain = chain }

not_less : (x m : ℕ) → m ≤ x → nat_lt x m ≡ false
not_less x m h = grind (arith, nat_tests)

module _ {X : Type 0} (p : X → Bool) where
  -- how many pass, where each does
  all_pass : (xs : List X) → ((k : ℕ) (d : X) → k < length xs → p (get_or xs k d) ≡ true) → count_by p xs ≡ length xs
  all_pass [] passes = refl
  all_pass (x ∷ xs) passes =
      let step = sum_by-cons (λ y. cond (p y) 1 0) x xs in
      let one = ap {B = ℕ} (λ b. cond b 1 0) (passes 0 x (omega arith)) in
      let rest = all_pass xs (λ k d lt. passes (suc k) d (omega arith)) in
      omega (arith, step, one, rest)

  -- and where none does
  none_passes : (xs : List X) → ((k : ℕ) (d : X) → k < length xs → p (get_or xs k d) ≡ false) → count_by p xs ≡ 0
  none_passes [] fails = refl
  none_passes (x ∷ xs) fails =
      let step = sum_by-cons (λ y. cond (p y) 1 0) x xs in
      let one = ap {B = ℕ} (λ b. cond b 1 0) (fails 0 x (omega arith)) in
      let rest = none_passes xs (λ k d lt. fails (suc k) d (omega arith)) in
      omega (arith, step, one, rest)

  count_around : (front : List X) (x : X) (back : List X) → count_by p (front ++ x ∷ back) ≡ count_by p front + (cond (p x) 1 0 + count_by p back)
  count_around front x back = sum_by-append (λ y. cond (p y) 1 0) front (x ∷ back) ∙ ap (λ n. count_by p front + n) (sum_by-cons (λ y. cond (p y) 1 0) x back)

-- of keys that are split around one, no more than those before it are ahead of a key exactly where
-- that one is not
among_split : (front : List RegionKey) (last : RegionKey) (back : List RegionKey) (q : RegionKey) → IsSplitAroundBy is_ahead front last back
    → nat_lt (count_by (λ a. is_ahead a q) (front ++ last ∷ back)) (length front + 1) ≡ not (is_ahead last q)
among_split front last back q split =
    let count = count_around (λ a. is_ahead a q) front last back in
    elim (cases_Bool (is_ahead last q)) [
      | inl before ↦
          let passes : (k : ℕ) (d : RegionKey) → k < length front → is_ahead (get_or front k d) q ≡ true = λ k d lt. elim (cases_Bool (is_ahead (get_or front k d) q)) [
            | inl is ↦ is
            | inr isnt ↦ absurd (let far = ahead-order.chain last (get_or front k d) q (split.0 k d lt) isnt in cc)
          ] in
          let each = all_pass (λ a. is_ahead a q) front passes in
          let one = ap {B = ℕ} (λ b. cond b 1 0) before in
          not_less _ _ (omega (arith, count, each, one)) ∙ ap not (sym before)
      | inr behind ↦
          let none = none_passes (λ a. is_ahead a q) back (λ k d lt. ahead-order.chain (get_or back k d) last q (split.1 k d lt) behind) in
          let most = count_by-le-length (λ a. is_ahead a q) front in
          let one = ap {B = ℕ} (λ b. cond b 1 0) behind in
          lt-ltb _ _ (omega (arith, count, none, most, one)) ∙ ap not (sym behind)
    ]

count_keys : (r : Region) (regions : List Region) → count_by (λ a. is_ahead a (key_of r)) (map key_of regions) ≡ count_by (λ a. comes_before a r) regions
count_keys r [] = refl
count_keys r (x ∷ xs) = sum_by-cons _ (key_of x) (map key_of xs) ∙ ap (λ n. cond (comes_before x r) 1 0 + n) (count_keys r xs) ∙ sym (sum_by-cons _ x xs)

-- a region is among the first exactly where the last of them, around which the keys are split, is not
-- ahead of its own
pub is_among-first : (regions : List Region) (front : List RegionKey) (last : RegionKey) (back : List RegionKey) (n : ℕ) (r : Region)
    → IsPermutation (map key_of regions) (front ++ last ∷ back) → IsSplitAroundBy is_ahead front last back → n ≡ length front + 1
    → is_among regions n r ≡ (nat_lt 0 n && is_within (key_of r) (Some last))
is_among-first regions front last back n r permuted split count =
    ap (λ x. nat_lt x n) (sym (count_keys r regions) ∙ sym (sum_by-IsPermutation _ (map key_of regions) (front ++ last ∷ back) permuted))
    ∙ ap (nat_lt (count_by (λ a. is_ahead a (key_of r)) (front ++ last ∷ back))) count
    ∙ among_split front last back (key_of r) split
    ∙ ap (λ b. b && not (is_ahead last (key_of r))) (sym (lt-ltb 0 n (omega (arith, count))))
