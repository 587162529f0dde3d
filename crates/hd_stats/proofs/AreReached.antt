-- One kept pit after another notes its number at the points that it reaches below its nearest saddle.
use Rattle.std.proofs.Common.{◌≡◌, ◌<◌, ◌+◌, ◌∙◌, ℕ, zero, suc, true, List, [], ◌∷◌, Option, Some, None, inl, inr, length, get_or, replicate, slice_get, refl, sym, ap, subst, arith}
use Rattle.std.proofs.lemmas.Bool.{cases_lt}
use Rattle.std.proofs.lemmas.List.{length-replicate}
use Rattle.std.proofs.lemmas.Option.{same_Some}
use Rattle.hd_map.specs.declared.types.Pos.{Pos}
use Rattle.hd_map.specs.declared.types.Rank.{Rank}
use Rattle.hd_map.specs.declared.types.SideName.{SideName}
use Rattle.hd_map.specs.Map.{InGrid, IsMap, Map, Present, cell_count, place_of, position_at}
use Rattle.hd_map.specs.Rank.{below_by, rank}
use Rattle.hd_map.specs.Shown.{IsReachedBelow}
use Rattle.hd_map.proofs.Points.{point_at, position_at-inside, position_at-place, same_index, same_place, same_point}
use Rattle.hd_map.proofs.Saddles.{saddle-above_pit}
use Rattle.hd_prune.specs.declared.step.Kept.{Kept}
use Rattle.hd_reach.specs.Marks.{AreBlank, AreMarked, mark_in, marked, marking}
use Rattle.hd_reach.specs.Reached.{IsReachedLow}
use Rattle.hd_reach.specs.Steps.{steps_at}
use Rattle.hd_reach.specs.Within.{LiesWithin}
use Rattle.hd_reach.proofs.Flooding.{replicate-all, Option-some_or_none}
use Rattle.hd_reach.proofs.ReachedBelow.{steps_at-low, IsReachedLow-sym, IsLow-end, IsReachedBelow-low as low-reached, IsReachedLow-below, IsReachedLow-steps}
use Rattle.hd_stats.specs.Volumes.{AreReached, IsReachedBy}
use Rattle.hd_stats.proofs.ReachedByKept.{AreNearest, IsReachedBy-apart, nearest-at, pit-listed, pit-read, IsReachedBy-below, IsReachedBelow-point}

-- what is noted stands inside the list
noted-inside : (reached : List (Option ℕ)) (k n : ℕ) → get_or reached k None ≡ Some n → k < length reached
noted-inside [] k n h = absurd (let e : None ≡ Some n = h in cc)
noted-inside (x ∷ xs) zero n h = omega arith
noted-inside (x ∷ xs) (suc k) n h = (let rest = noted-inside xs k n h in omega arith)

-- the mark of each step is the number
same-mark : (n : ℕ) (old : List (Option ℕ)) (j : ℕ) → mark_in (marking None (λ x. x) (Some n) old) j ≡ Some n
same-mark n old zero = refl
same-mark n old (suc j) = same-mark n old j

-- before the first nothing is noted
pub AreReached-none : (m : Map) (side : SideName) (kept : List Kept) → AreReached m side kept 0 (replicate (cell_count m.size) None)
AreReached-none m side kept = record {
  whole = length-replicate (cell_count m.size) None;
  exactly = λ k n. ((λ e. absurd (let both : None ≡ Some n = sym (replicate-all None (cell_count m.size) k) ∙ e in cc)), (λ x. absurd (let less = x.1 in omega (arith, less))));
}

-- a kept pit lies below its nearest saddle
pub rank-pit_low : (m : Map) (side : SideName) (kept : List Kept) (w : AreNearest m side kept) (n : ℕ) (k : Kept) (s : Rank) (from : Pos) → slice_get kept n ≡ Some k
    → k.nearest ≡ Some s → InGrid m.size from → place_of m.size from ≡ k.pit.index
    → (rank m from ≡ k.pit) × LiesWithin m side (Some s) true from
rank-pit_low m side kept w n k s from is e there place =
    let pit = w.pits k.pit (pit-listed m side kept w n k.pit (pit-read m side kept w n k is)) in
    let point = pit.point in
    let at : point.at ≡ from = same_place m.size point.at from point.present.in_grid there (sym (place ∙ ap (λ (r : Rank). r.index) point.rank_is)) in
    let same : rank m from ≡ k.pit = ap (rank m) (sym at) ∙ sym point.rank_is in
    let nearest = nearest-at m side kept w n k is s e in
    let down = saddle-above_pit m side k.pit nearest.reached.0 s pit (λ f. nearest.reached.2 (sym f)) nearest.reached.3 in
    (same, record { present = subst (Present m) at point.present; low = subst (λ (r : Rank). below_by side r s ≡ true) (sym same) down })

module _ (m : Map) (side : SideName) (whole : IsMap m) (kept : List Kept) (w : AreNearest m side kept) (n : ℕ) (old : List (Option ℕ)) (are : AreReached m side kept n old)
    (k : Kept) (is : slice_get kept n ≡ Some k) where
  -- one without a nearest saddle reaches nothing
  pub AreReached-same : k.nearest ≡ None → AreReached m side kept (n + 1) old
  AreReached-same none = record {
    whole = are.whole;
    exactly = λ i j. (
      λ e. (let x = (are.exactly i j).0 e in let less = x.1 in (x.0, omega (arith, less), x.2, x.3)),
      λ x. elim (cases_lt j n) [
        | inl less ↦ (are.exactly i j).1 (x.0, less, x.2, x.3)
        | inr more ↦
            let last : j ≡ n = (let less = x.1 in omega (arith, less, more)) in
            let by = x.3 in
            let same : by.one ≡ k = same_Some by.one k (sym by.is_one ∙ ap (slice_get kept) last ∙ is) in
            absurd (let e : Some by.saddle ≡ None = sym by.nearest ∙ ap (λ (z : Kept). z.nearest) same ∙ none in cc)
      ],
    );
  }

  module _ (s : Rank) (e : k.nearest ≡ Some s) (from : Pos) (pit : rank m from ≡ k.pit) (low : LiesWithin m side (Some s) true from) where
    reached-by : (p : Pos) → IsReachedLow m side (Some s) from p → IsReachedBy m side kept n (rank m p)
    reached-by p r = record { one = k; is_one = is; saddle = s; nearest = e; below = subst (λ (a : Rank). IsReachedBelow m side (Some s) a (rank m p)) pit (low-reached m side (Some s) from p low r) }

    present : (p : Pos) → IsReachedLow m side (Some s) from p → Present m p
    present p r = (IsLow-end m side (Some s) from r.0 p low r.1).present

    -- what is noted of another it does not reach
    not-reached : (p : Pos) (i : ℕ) → get_or old (place_of m.size p) None ≡ Some i → IsReachedLow m side (Some s) from p → ⊥
    not-reached p i noted r =
        let x = (are.exactly (place_of m.size p) i).0 noted in
        let by = x.3 in
        let one : x.0 ≡ rank m p = same_index m x.0 (rank m p) (IsReachedBelow-point m side by.saddle by.one.pit x.0 by.below) (point_at m p (present p r)) x.2 in
        let same = IsReachedBy-apart m side kept w i n (rank m p) (subst (IsReachedBy m side kept i) one by) (reached-by p r) in
        let less = x.1 in
        omega (arith, less, same)

    pub AreBlank-noted : AreBlank m (LiesWithin m side (Some s) true) from None old
    AreBlank-noted p xs l = elim (Option-some_or_none (get_or old (place_of m.size p) None)) [
      | inl some ↦ absurd (not-reached p some.0 some.1 (IsReachedLow-sym m side (Some s) p from (xs, l)))
      | inr none ↦ none
    ]

    module _ (new : List (Option ℕ)) (known : AreMarked m (LiesWithin m side (Some s) true) from None (marking None (λ x. x) (Some n) old) new) where
      -- where it has steps its number is noted, and elsewhere what was noted before
      noted-steps : (p : Pos) → InGrid m.size p → (j : ℕ) → steps_at m.size known.steps p ≡ Some j → get_or new (place_of m.size p) None ≡ Some n
      noted-steps p there j steps = known.read p there ∙ ap (marked (marking None (λ x. x) (Some n) old) (get_or old (place_of m.size p) None)) steps ∙ same-mark n old j

      noted-before : (p : Pos) → InGrid m.size p → steps_at m.size known.steps p ≡ None → get_or new (place_of m.size p) None ≡ get_or old (place_of m.size p) None
      noted-before p there none = known.read p there ∙ ap (marked (marking None (λ x. x) (Some n) old) (get_or old (place_of m.size p) None)) none

      noted-at : (p : Pos) (i : ℕ) → InGrid m.size p → get_or new (place_of m.size p) None ≡ Some i → (x : Rank) × (i < n + 1) × (x.index ≡ place_of m.size p) × IsReachedBy m side kept i x
      noted-at p i there noted = elim (Option-some_or_none (steps_at m.size known.steps p)) [
        | inl some ↦
            let same : n ≡ i = same_Some n i (sym (noted-steps p there some.0 some.1) ∙ noted) in (
              rank m p,
              omega (arith, same),
              refl,
              subst (λ j. IsReachedBy m side kept j (rank m p)) same
                  (reached-by p (IsReachedLow-steps m side (Some s) from known.steps known.are p there some.0 some.1)),
            )
        | inr none ↦
            let x = (are.exactly (place_of m.size p) i).0 (sym (noted-before p there none) ∙ noted) in
            let less = x.1 in
            (x.0, omega (arith, less), x.2, x.3)
      ]

      -- a point that is reached is noted
      noted-point : (i : ℕ) (x : Rank) → i < n + 1 → IsReachedBy m side kept i x → get_or new x.index None ≡ Some i
      noted-point i x below by =
          let point = IsReachedBelow-point m side by.saddle by.one.pit x by.below in
          let p : Pos = point.at in
          let there = point.present.in_grid in
          let place : x.index ≡ place_of m.size p = ap (λ (r : Rank). r.index) point.rank_is in
          ap (λ l. get_or new l None) place ∙ (elim (cases_lt i n) [
            | inl less ↦
                let before : get_or old (place_of m.size p) None ≡ Some i = (are.exactly (place_of m.size p) i).1 (x, less, place, by) in
                elim (Option-some_or_none (steps_at m.size known.steps p)) [
                  | inl some ↦ absurd (not-reached p i before (IsReachedLow-steps m side (Some s) from known.steps known.are p there some.0 some.1))
                  | inr none ↦ noted-before p there none ∙ before
                ]
            | inr more ↦
                let last : i ≡ n = omega (arith, below, more) in
                let r = IsReachedBy-below m side kept w n k s is e x (subst (λ j. IsReachedBy m side kept j x) last by) in
                let q = IsReachedLow-below m side (Some s) from x low.present (subst (λ (a : Rank). IsReachedBelow m side (Some s) a x) (sym pit) r) in
                let same : q.0 ≡ p = same_point m q.0 p (present q.0 q.2) point.present (q.1 ∙ point.rank_is) in
                let steps = steps_at-low m side (Some s) from known.steps known.are p (subst (IsReachedLow m side (Some s) from) same q.2) in
                noted-steps p there steps.0 steps.1 ∙ ap Some (sym last)
          ])

      pub AreReached-more : AreReached m side kept (n + 1) new
      AreReached-more = record {
        whole = known.whole;
        exactly = λ i j. (
          λ noted.
              (let inside : i < cell_count m.size = subst (λ c. i < c) known.whole (noted-inside new i j noted) in
              let place : place_of m.size (position_at m.size i) ≡ i = position_at-place m.size i whole.size.some_points in
              let x = noted-at (position_at m.size i) j (position_at-inside m.size i whole.size.some_points inside) (ap (λ l. get_or new l None) place ∙ noted) in
              (x.0, x.1, x.2 ∙ place, x.3)),
          λ x. ap (λ l. get_or new l None) (sym x.2) ∙ noted-point j x.0 x.1 x.3,
        );
      }
