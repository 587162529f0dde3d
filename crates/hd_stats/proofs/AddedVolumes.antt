-- Volumes, added up point by point.
use Rattle.std.proofs.Common.{◌≡◌, ◌+◌, ◌*◌, ◌^◌, ◌++◌, ◌∙◌, ℕ, zero, suc, ℤ, List, [], ◌∷◌, get_or, Option, None, ap, ap₂, sym, arith}
use Rattle.std.specs.List.{range_with_len, sum_by}
use Rattle.std.proofs.lemmas.List.Sums.{sum_by_push}
use Rattle.hd_map.specs.Map.{Map, height_at, position_at}
use Rattle.hd_prune.specs.declared.step.Kept.{Kept}
use Rattle.hd_stats.specs.Volumes.{AddsPoint, AreVolumes, added}

-- one more number
pub range_with_len-push : (a n j : ℕ) → a + n ≡ j → range_with_len a (n + 1) ≡ range_with_len a n ++ j ∷ []
range_with_len-push a zero j e = ap (λ k. k ∷ []) (let same : a ≡ j = omega (arith, e) in same)
range_with_len-push a (suc n) j e = ap (range_with_len a) (let same : suc n + 1 ≡ suc (n + 1) = omega arith in same) ∙ ap (λ ks. a ∷ ks) (range_with_len-push (a + 1) n j (omega (arith, e)))

module _ (m : Map) (kept : List Kept) (reached : List (Option ℕ)) where
  -- what the point of an index adds to the volume of a kept pit
  abbrev at_index : ℕ → ℕ → ℕ
  at_index i k = added kept (get_or reached k None) (height_at m (position_at m.size k)) i

  -- one more point
  pub AreVolumes-more : (n : ℕ) (by : Option ℕ) (height : Option ℤ) (old new : List ℕ) → AreVolumes m kept reached n old → by ≡ get_or reached n None → height ≡ height_at m (position_at m.size n)
      → AddsPoint kept by height old new → AreVolumes m kept reached (n + 1) new
  AreVolumes-more n by height old new are is here adds = record {
    whole = adds.whole ∙ are.whole;
    each = λ i inside.
        adds.each i (let whole = are.whole in omega (arith, inside, whole)) ∙ ap₂ (λ a b. a + b) (are.each i inside) (ap₂ (λ b h. added kept b h i) is here)
        ∙ sym (sum_by_push (at_index i) (range_with_len 0 n) n) ∙ ap (sum_by (at_index i)) (sym (range_with_len-push 0 n n (omega arith)));
    small = λ i inside.
        (let whole = are.whole in
        let more = adds.small (n * 2 ^ 64) (λ j at. are.small j (omega (arith, at, whole))) i (omega (arith, inside, whole)) in
        omega (arith, more));
  }
