-- What kept pits reach below their nearest saddles: no point is reached from two of them, and each is owned by the pit that reaches it.
use Rattle.std.proofs.Common.{◌≡◌, ◌≢◌, ◌<◌, ◌∙◌, ℕ, true, false, inl, inr, List, ◌∷◌, Some, length, get_or, slice_get, option_map, refl, sym, ap, subst, arith}
use Rattle.std.specs.Prelude.{◌≤◌, AllPairs, Contains}
use Rattle.std.proofs.lemmas.Bool.{cases_lt, false≢true}
use Rattle.std.proofs.lemmas.List.{length-map}
use Rattle.std.proofs.lemmas.List.Elements.{All-contains, Contains-get_or}
use Rattle.std.proofs.lemmas.Option.{get_or_from_slice_get, same_Some, slice_get-map, slice_get_within}
use Rattle.hd_map.specs.declared.types.Rank.{Rank}
use Rattle.hd_map.specs.declared.types.SideName.{SideName}
use Rattle.hd_map.specs.Map.{IsMap, Map, cell_count}
use Rattle.hd_map.specs.NearestSaddle.{IsNearestSaddle, NearestSaddleIs}
use Rattle.hd_map.specs.Order.{IsNotAbove}
use Rattle.hd_map.specs.Rank.{IsPoint, Near, below_by}
use Rattle.hd_map.specs.Region.{IsPit, IsRoot}
use Rattle.hd_map.specs.Shown.{IsReachedBelow}
use Rattle.hd_map.specs.SideLaws.{below_by-order}
use Rattle.hd_map.proofs.Apart.{length-le_from_apart}
use Rattle.hd_map.proofs.Points.{point_inside}
use Rattle.hd_map.proofs.Levels.{here, reach-from_path, same_or_not, top_of}
use Rattle.hd_map.proofs.Nexts.{root-is_pit, root-of_pit}
use Rattle.hd_map.proofs.Saddles.{reach-point}
use Rattle.hd_map.proofs.Order.{below-not_above, not_above-trans}
use Rattle.hd_prune.specs.declared.step.Kept.{Kept}
use Rattle.hd_prune.specs.Kept.{pits_kept}
use Rattle.hd_prune.specs.Staying.{AreKeptAlone}
use Rattle.hd_prune.proofs.MapOwners.{root-reached}
use Rattle.hd_prune.proofs.JoinedByPaths.{JoinedBy, joined_along, joined_both, joined_higher, not_above_level}
use Rattle.hd_lines.proofs.Owners.{AreOwners, AreOwners-pruned, JoinedBy-saddle}
use Rattle.hd_stats.specs.Volumes.{IsReachedBy}

module _ (m : Map) (side : SideName) where
  -- what is reached below a saddle is joined below it
  pub IsReachedBelow-joined : (s p x : Rank) → IsReachedBelow m side (Some s) p x → (t : Rank) × (below_by side t s ≡ true) × JoinedBy m side t p x
  IsReachedBelow-joined s p x r =
      let top = top_of (below_by side) (below_by-order side) p r.points in (
        top.0,
        All-contains (λ y. below_by side y s ≡ true) (p ∷ r.points) top.0 r.below top.1.one_of,
        reach-from_path (Near m) (below_by side) (below_by-order side) top.0 p x r.points r.path.leads top.1.none_above,
      )

  -- and is a point
  pub IsReachedBelow-point : (s p x : Rank) → IsReachedBelow m side (Some s) p x → IsPoint m x
  IsReachedBelow-point s p x r = (let j = IsReachedBelow-joined s p x r in reach-point m side j.0 r.path.point j.2)

  -- no pit of the set is joined with another below the nearest saddle of that
  pub IsNearestSaddle-none_below : (last : List Rank) (p s : Rank) → IsPoint m p → IsNearestSaddle m side last p s → (t o : Rank) → Contains last o → o ≢ p
      → below_by side t s ≡ true → JoinedBy m side t p o → ⊥
  IsNearestSaddle-none_below last p s point nearest t o at ne low j =
      let u = JoinedBy-saddle m side t p o point ne j in
      let high : IsNotAbove (below_by side) s t = not_above-trans (below_by side) (below_by-order side) s u.0 t (nearest.least o u.0 at ne u.1) u.2 in
      false≢true (sym high ∙ low)

  -- no point is reached from two pits of the set, each below its nearest saddle
  pub IsReachedBelow-apart : (last : List Rank) (p q s u x : Rank) → IsPoint m p → IsPoint m q → Contains last p → Contains last q → p ≢ q → IsNearestSaddle m side last p s
      → IsNearestSaddle m side last q u
      → IsReachedBelow m side (Some s) p x → IsReachedBelow m side (Some u) q x → ⊥
  IsReachedBelow-apart last p q s u x point other at_p at_q ne nearest nearest' r r' =
      let a = IsReachedBelow-joined s p x r in
      let b = IsReachedBelow-joined u q x r' in
      elim (below_by side a.0 b.0) as (λ v. below_by side a.0 b.0 ≡ v → ⊥) [
        | true ↦ λ e. IsNearestSaddle-none_below last q u other nearest' b.0 p at_p ne b.1
            (joined_along m side b.0 q x p b.2 (joined_both m side b.0 p x (joined_higher m side a.0 b.0 p x (below-not_above (below_by side) (below_by-order side) a.0 b.0 e) a.2)))
        | false ↦ λ e. IsNearestSaddle-none_below last p s point nearest a.0 q at_q (λ f. ne (sym f)) a.1
            (joined_along m side a.0 p x q a.2 (joined_both m side a.0 q x (joined_higher m side b.0 a.0 q x e b.2)))
      ] refl

  module _ (last : List Rank) (owner : Rank → Rank) (w : AreOwners m side last owner) (p s : Rank) (at : Contains last p) (nearest : IsNearestSaddle m side last p s) where
    pit : IsPit m side p
    pit = w.among p at

    -- a point that is joined with the pit has its root joined with it
    root-joined : (t x r : Rank) → IsRoot m side x r → JoinedBy m side t p x → JoinedBy m side t p r
    root-joined t x r root j = elim (same_or_not (below_by side) (below_by-order side) x p) [
      | inl e ↦ subst (λ (z : Rank). JoinedBy m side t p z) (sym (root-of_pit m side p r pit (subst (λ (z : Rank). IsRoot m side z r) e root))) here
      | inr ne ↦ joined_along m side t p x r j (root-reached m side x r t root (not_above_level m side t x p (λ e. ne (sym e)) (joined_both m side t p x j)))
    ]

    -- what the pit reaches below its nearest saddle it owns
    pub IsReachedBelow-owned : (x r : Rank) → IsReachedBelow m side (Some s) p x → IsRoot m side x r → owner r ≡ p
    IsReachedBelow-owned x r reached root =
        let j = IsReachedBelow-joined s p x reached in
        let t : Rank = j.0 in
        let is : IsPit m side r = root-is_pit m side x r root in
        let pr : JoinedBy m side t p r = root-joined t x r root j.2 in
        elim (w.joined t r p is pit (joined_both m side t p r pr)) [
          | inl e ↦ e ∙ w.own p at
          | inr own ↦ elim (same_or_not (below_by side) (below_by-order side) (owner r) p) [
            | inl e ↦ e
            | inr ne ↦ absurd (IsNearestSaddle-none_below last p s pit.point nearest t (owner r) (w.kept_owner r is) ne j.1 (joined_along m side t p r (owner r) pr own))
          ]
        ]

-- kept pits in position order, each with its nearest saddle
pub record AreNearest (m : Map) (side : SideName) (kept : List Kept) : Type 0 where
  pub in_order : AllPairs (λ a b. a.index < b.index) (pits_kept kept)
  pub pits : (p : Rank) → Contains (pits_kept kept) p → IsPit m side p
  pub nearest : (k : Kept) → Contains kept k → NearestSaddleIs m side (pits_kept kept) k.pit k.nearest

-- those of a pruning are
pub AreNearest-kept : (m : Map) (side : SideName) (thousandths : ℕ) (kept : List Kept) → AreKeptAlone m side thousandths kept → AreNearest m side kept
AreNearest-kept m side thousandths kept alone =
    let w = AreOwners-pruned m side thousandths alone.steps alone.last alone.owner alone.pruning in
    let are = alone.are_kept in
    record {
      in_order = subst (λ (ps : List Rank). AllPairs (λ a b. a.index < b.index) ps) (sym are.pits) w.in_order;
      pits = λ p at. w.among p (subst (λ (ps : List Rank). Contains ps p) are.pits at);
      nearest = λ k at. subst (λ (ps : List Rank). NearestSaddleIs m side ps k.pit k.nearest) (sym are.pits) (are.nearest k at);
    }

module _ (m : Map) (side : SideName) (kept : List Kept) (w : AreNearest m side kept) where
  abbrev pits : List Rank
  pits = pits_kept kept

  pub pit-listed : (n : ℕ) (p : Rank) → slice_get pits n ≡ Some p → Contains pits p
  pit-listed n p is = subst (λ z. Contains pits z) (get_or_from_slice_get pits n p p is) (Contains-get_or pits n p (slice_get_within pits n p is))

  pub kept-listed : (n : ℕ) (k : Kept) → slice_get kept n ≡ Some k → Contains kept k
  kept-listed n k is = subst (λ z. Contains kept z) (get_or_from_slice_get kept n k k is) (Contains-get_or kept n k (slice_get_within kept n k is))

  pub pit-read : (n : ℕ) (k : Kept) → slice_get kept n ≡ Some k → slice_get pits n ≡ Some k.pit
  pit-read n k is = slice_get-map (λ (k : Kept). k.pit) kept n ∙ ap (option_map (λ (k : Kept). k.pit)) is

  pub nearest-at : (n : ℕ) (k : Kept) → slice_get kept n ≡ Some k → (s : Rank) → k.nearest ≡ Some s → IsNearestSaddle m side pits k.pit s
  nearest-at n k is s e = subst (NearestSaddleIs m side pits k.pit) e (w.nearest k (kept-listed n k is))

  -- no pit stands twice
  pit-once : (i j : ℕ) (p : Rank) → slice_get pits i ≡ Some p → slice_get pits j ≡ Some p → i ≡ j
  pit-once i j p is is' =
      let inside = slice_get_within pits i p is in
      let inside' = slice_get_within pits j p is' in
      let same : (get_or pits i p).index ≡ (get_or pits j p).index = ap (λ (r : Rank). r.index) (get_or_from_slice_get pits i p p is ∙ sym (get_or_from_slice_get pits j p p is')) in
      elim (cases_lt i j) [
        | inl less ↦ absurd (let lt = w.in_order i j p less inside' in omega (arith, lt, same))
        | inr more ↦ elim (cases_lt j i) [
          | inl less ↦ absurd (let lt = w.in_order j i p less inside in omega (arith, lt, same))
          | inr least ↦ omega (arith, more, least)
        ]
      ]

  -- no point is reached from two of them
  pub IsReachedBy-apart : (i j : ℕ) (x : Rank) → IsReachedBy m side kept i x → IsReachedBy m side kept j x → i ≡ j
  IsReachedBy-apart i j x a b =
      let p : Rank = a.one.pit in
      let q : Rank = b.one.pit in
      let is : slice_get pits i ≡ Some p = pit-read i a.one a.is_one in
      let is' : slice_get pits j ≡ Some q = pit-read j b.one b.is_one in
      let at_p = pit-listed i p is in
      let at_q = pit-listed j q is' in
      elim (same_or_not (below_by side) (below_by-order side) p q) [
        | inl same ↦ pit-once i j q (is ∙ ap Some same) is'
        | inr ne ↦ absurd (IsReachedBelow-apart m side pits p q a.saddle b.saddle x (w.pits p at_p).point (w.pits q at_q).point at_p at_q ne
            (nearest-at i a.one a.is_one a.saddle a.nearest) (nearest-at j b.one b.is_one b.saddle b.nearest) a.below b.below)
      ]

  -- what one with this nearest saddle reaches
  pub IsReachedBy-below : (n : ℕ) (k : Kept) (s : Rank) → slice_get kept n ≡ Some k → k.nearest ≡ Some s → (x : Rank) → IsReachedBy m side kept n x → IsReachedBelow m side (Some s) k.pit x
  IsReachedBy-below n k s is e x r =
      let same : r.one ≡ k = same_Some r.one k (sym r.is_one ∙ is) in
      let level : r.saddle ≡ s = same_Some r.saddle s (sym r.nearest ∙ ap (λ (z : Kept). z.nearest) same ∙ e) in
      subst (λ (z : Kept). IsReachedBelow m side (Some s) z.pit x) same (subst (λ (u : Rank). IsReachedBelow m side (Some u) r.one.pit x) level r.below)

  -- there are few of them
  pub kept-few : IsMap m → length kept ≤ 4194304
  kept-few whole =
      let most = length-le_from_apart (λ (r : Rank). r.index) (cell_count m.size) pits (λ i j d less inside e. (let lt = w.in_order i j d less inside in omega (arith, lt, e)))
      (λ p at. point_inside m p (w.pits p at).point) in
      let long = length-map kept (λ (k : Kept). k.pit) in
      let cells = whole.size.cells in
      omega (arith, most, long, cells)
