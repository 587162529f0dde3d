-- The points that a kept pit reaches below its nearest saddle, read off a list of who reaches what, and their volume.
use Rattle.std.proofs.Common.{◌≡◌, ◌<◌, ◌∙◌, ℕ, pos, Bool, true, false, cond, List, [], ◌∷◌, length, map, filter, get_or, slice_get, Option, Some, None, refl, sym, ap, ap₂, subst, arith}
use Rattle.std.specs.Prelude.{Contains, nat_eq}
use Rattle.std.specs.List.{range_with_len, sum_by}
use Rattle.std.proofs.lemmas.Bool.Decides.{nat_tests}
use Rattle.std.proofs.lemmas.List.Kept.{AllPairs-filter}
use Rattle.std.proofs.lemmas.List.Sums.{sum_by-cons}
use Rattle.std.proofs.lemmas.Option.{slice_get_within}
use Rattle.hd_num.specs.Frac.{IsFraction}
use Rattle.hd_num.specs.declared.frac.Frac.{Frac}
use Rattle.hd_map.specs.declared.types.Cell.{Cell}
use Rattle.hd_map.specs.declared.types.Cell.TheVariants.{Bad, Height}
use Rattle.hd_map.specs.declared.types.Pos.{Pos}
use Rattle.hd_map.specs.declared.types.Rank.{Rank}
use Rattle.hd_map.specs.declared.types.SideName.{SideName}
use Rattle.hd_map.specs.Map.{IsMap, IsMeasured, Map, Present, cell_at, height_at, height_or_zero, mask_at, position_at, shown_height}
use Rattle.hd_map.specs.NearestSaddle.{NearestSaddleIs, local_height}
use Rattle.hd_map.specs.Rank.{rank}
use Rattle.hd_map.specs.Shown.{IsReachedBelow}
use Rattle.hd_map.proofs.Points.{point_inside, position_at-place, rank_position}
use Rattle.hd_prune.specs.declared.step.Kept.{Kept}
use Rattle.hd_prune.specs.Kept.{pits_kept}
use Rattle.hd_prune.proofs.Lists.{AllPairs-map, Contains-filter, Contains-map, filter-Contains, map-Contains}
use Rattle.hd_prune.proofs.Ranges.{range-Contains, range-rises}
use Rattle.hd_stats.specs.Fill.{AreFilled, AreFills, IsFill}
use Rattle.hd_stats.specs.Volumes.{AreReached, AreValues, AreVolumes, IsReachedBy, IsValueOf, added, difference, is_number, nearest_of}
use Rattle.hd_stats.proofs.ReachedByKept.{AreNearest, kept-listed, nearest-at, IsReachedBy-below, IsReachedBelow-point}

-- the height of a present point
shown : (c : Cell) (masked : Bool) → IsMeasured c → masked ≡ false → shown_height c masked ≡ Some (height_or_zero c)
shown (Height h) false measured clear = refl
shown (Height h) true measured clear = absurd cc
shown Bad masked measured clear = absurd measured

present-height : (m : Map) (p : Pos) → Present m p → height_at m p ≡ Some (rank m p).height
present-height m p here = shown (cell_at m p) (mask_at m p) here.measured here.shown

-- the number that is tested for
number-is : (i : ℕ) (by : Option ℕ) → is_number i by ≡ true → by ≡ Some i
number-is i None h = absurd cc
number-is i (Some n) h = ap Some (let same : n ≡ i = grind (arith, nat_tests) in same)

is-number : (i : ℕ) (by : Option ℕ) → by ≡ Some i → is_number i by ≡ true
is-number i by e = ap (is_number i) e ∙ (let same : nat_eq i i ≡ true = grind (arith, nat_tests) in same)

-- a sum over numbers is one over what those stand for that pass a test, where the others add nothing
sum-filtered : (p : ℕ → Bool) (r : ℕ → Rank) (f : Rank → ℕ) (g : ℕ → ℕ) → ((k : ℕ) → p k ≡ true → g k ≡ f (r k)) → ((k : ℕ) → p k ≡ false → g k ≡ 0) → (ks : List ℕ)
    → sum_by g ks ≡ sum_by f (map r (filter p ks))
sum-filtered p r f g passes fails [] = refl
sum-filtered p r f g passes fails (k ∷ ks) =
    let rest = sum-filtered p r f g passes fails ks in
    let more = sum_by-cons g k ks in
    elim (p k) as (λ v. p k ≡ v → sum_by g (k ∷ ks) ≡ sum_by f (map r (cond v (k ∷ filter p ks) (filter p ks)))) [
      | true ↦ λ e. (let more' = sum_by-cons f (r k) (map r (filter p ks)) in let here = passes k e in omega (arith, rest, more, more', here))
      | false ↦ λ e. (let here = fails k e in omega (arith, rest, more, here))
    ] refl

module _ (m : Map) (side : SideName) (whole : IsMap m) (kept : List Kept) (w : AreNearest m side kept) (reached : List (Option ℕ)) (are : AreReached m side kept (length kept) reached) where
  abbrev rank_of : ℕ → Rank
  rank_of k = rank m (position_at m.size k)

  abbrev reaches : ℕ → ℕ → Bool
  reaches i k = is_number i (get_or reached k None)

  -- the points that the kept pit of a number reaches
  abbrev filled : ℕ → List Rank
  filled i = map rank_of (filter (reaches i) (range_with_len 0 (length reached)))

  pub record IsHere (i k : ℕ) : Type 0 where
    pub present : Present m (position_at m.size k)
    pub by : IsReachedBy m side kept i (rank_of k)

  -- where a number is noted, a point is present, which that pit reaches
  is-here : (i k : ℕ) → reaches i k ≡ true → IsHere i k
  is-here i k h =
      let x = (are.exactly k i).0 (number-is i (get_or reached k None) h) in
      let by = x.3 in
      let point = IsReachedBelow-point m side by.saddle by.one.pit x.0 by.below in
      let at : position_at m.size k ≡ point.at = ap (position_at m.size) (sym x.2) ∙ rank_position m x.0 point.at point.present point.rank_is in
      let is : x.0 ≡ rank_of k = point.rank_is ∙ ap (rank m) (sym at) in
      record { present = subst (Present m) (sym at) point.present; by = subst (λ z. IsReachedBy m side kept i z) is by }

  -- each number is one of a kept pit
  pub numbers-few : (k n : ℕ) → get_or reached k None ≡ Some n → n < length kept
  numbers-few k n e = ((are.exactly k n).0 e).1

  index-of : (k : ℕ) → (rank_of k).index ≡ k
  index-of k = position_at-place m.size k whole.size.some_points

  module _ (i : ℕ) (k : Kept) (s : Rank) (is : slice_get kept i ≡ Some k) (e : k.nearest ≡ Some s) where
    are-filled : AreFilled m side k.pit s (filled i)
    are-filled = record {
      exactly = λ x. (
        λ h.
            (let a = Contains-map rank_of (filter (reaches i) (range_with_len 0 (length reached))) x h in
            let b = Contains-filter (reaches i) (range_with_len 0 (length reached)) a.0 a.1 in
            subst (λ z. IsReachedBelow m side (Some s) k.pit z) a.2 (IsReachedBy-below m side kept w i k s is e (rank_of a.0) (is-here i a.0 b.1).by)),
        λ r.
            (let point = IsReachedBelow-point m side s k.pit x r in
            let inside : x.index < length reached = rw are.whole (point_inside m x point) in
            let noted = (are.exactly x.index i).1 (x, slice_get_within kept i k is, refl, record { one = k; is_one = is; saddle = s; nearest = e; below = r }) in
            let at = filter-Contains (reaches i) (range_with_len 0 (length reached)) x.index (range-Contains (length reached) x.index inside) (is-number i (get_or reached x.index None) noted) in
            let same : rank_of x.index ≡ x = ap (rank m) (rank_position m x point.at point.present point.rank_is) ∙ sym point.rank_is in
            subst (λ z. Contains (filled i) z) same (map-Contains rank_of (filter (reaches i) (range_with_len 0 (length reached))) x.index at)),
      );
      in_order = AllPairs-map (λ a b. a.index < b.index) rank_of (filter (reaches i) (range_with_len 0 (length reached))) (λ a b d less inside.
          (let lt = AllPairs-filter (λ a b. a < b) (reaches i) (range_with_len 0 (length reached)) (range-rises (length reached)) a b d less inside in
          let one = index-of (get_or (filter (reaches i) (range_with_len 0 (length reached))) a d) in
          let other = index-of (get_or (filter (reaches i) (range_with_len 0 (length reached))) b d) in
          omega (arith, lt, one, other)));
    }

    -- what is added at an index
    abbrev at_index : ℕ → ℕ
    at_index j = added kept (get_or reached j None) (height_at m (position_at m.size j)) i

    added-here : (j : ℕ) → reaches i j ≡ true → at_index j ≡ local_height (rank_of j) s
    added-here j h =
        ap (λ b. cond b (difference (nearest_of (slice_get kept i)) (height_at m (position_at m.size j))) 0) h
        ∙ ap₂ difference (ap nearest_of is ∙ e) (present-height m (position_at m.size j) (is-here i j h).present)

    added-nothing : (j : ℕ) → reaches i j ≡ false → at_index j ≡ 0
    added-nothing j h = ap (λ b. cond b (difference (nearest_of (slice_get kept i)) (height_at m (position_at m.size j))) 0) h

    volume-is : (volumes : List ℕ) → AreVolumes m kept reached (length reached) volumes → get_or volumes i 0 ≡ sum_by (λ x. local_height x s) (filled i)
    volume-is volumes v =
        v.each i (slice_get_within kept i k is) ∙ sum-filtered (reaches i) rank_of (λ x. local_height x s) at_index added-here added-nothing (range_with_len 0 (length reached))

  value-fill : (i : ℕ) (k : Kept) (volumes : List ℕ) (value : Option Frac) → slice_get kept i ≡ Some k → AreVolumes m kept reached (length reached) volumes
      → IsValueOf k.nearest (get_or volumes i 0) value
      → IsFill m side (pits_kept kept) k.pit value
  value-fill i k volumes None is v of = subst (NearestSaddleIs m side (pits_kept kept) k.pit) of (w.nearest k (kept-listed m side kept w i k is))
  value-fill i k volumes (Some f) is v of = (
    of.0,
    nearest-at m side kept w i k is of.0 of.1,
    record { points = filled i; are_filled = are-filled i k of.0 is of.1; fraction = subst (λ n. IsFraction (pos n) 1 f.num f.den) (volume-is i k of.0 is of.1 volumes v) of.2 },
  )

  pub AreFills-listed : (volumes : List ℕ) (values : List (Option Frac)) → AreVolumes m kept reached (length reached) volumes → AreValues kept volumes (length kept) values
      → AreFills m side kept values
  AreFills-listed volumes values v of = record {
    whole = of.whole;
    each = λ i k value is at. value-fill i k volumes value is v (of.each i k value (slice_get_within kept i k is) is at);
  }
