-- What holds of owners at every step of a pruning: two pits that are joined at a level have one owner, or each is joined there with its own.
use Rattle.std.proofs.Common.{◌≡◌, ◌≢◌, ◌<◌, ◌⊎◌, ◌∙◌, ℕ, ℤ, cond, inl, inr, List, refl, sym, ap, subst}
use Rattle.std.specs.Prelude.{AllPairs, Contains}
use Rattle.std.proofs.lemmas.List.Kept.{AllPairs-filter}
use Rattle.hd_map.specs.declared.types.Rank.{Rank}
use Rattle.hd_map.specs.declared.types.SideName.{SideName}
use Rattle.hd_map.specs.Map.{Map}
use Rattle.hd_map.specs.Order.{IsNotAbove}
use Rattle.hd_map.specs.Passes.{higher_by}
use Rattle.hd_map.specs.Pruning.{IsPruneStep, IsPruning, Leaving, Prunes, differ, goes_on, handed, over, without}
use Rattle.hd_map.specs.Rank.{IsPoint, Near, below_by}
use Rattle.hd_map.specs.Region.{IsPit, IsRoot}
use Rattle.hd_map.specs.Saddle.{IsSaddle}
use Rattle.hd_map.specs.SideLaws.{below_by-order}
use Rattle.hd_map.proofs.Levels.{here, path-from_reach, same_or_not, step}
use Rattle.hd_map.proofs.Nexts.{root-is_pit}
use Rattle.hd_map.proofs.Saddles.{level-from_saddle, saddle-exists}
use Rattle.hd_map.proofs.Order.{below-not_above, not_above-trans}
use Rattle.hd_map.proofs.Higher.{higher-bounds}
use Rattle.hd_prune.proofs.MapOwners.{joined-top, root-reached}
use Rattle.hd_prune.proofs.Nearest.{Contains-without, without-Contains}
use Rattle.hd_prune.proofs.Owners.{handed-over, handed-stays}
use Rattle.hd_prune.proofs.JoinedByPaths.{JoinedBy, joined_along, joined_both, joined_higher, not_above_level}

module _ (m : Map) (side : SideName) where
  -- where two points are joined, they have a saddle that is not above the level
  pub JoinedBy-saddle : (t a b : Rank) → IsPoint m a → b ≢ a → JoinedBy m side t a b → (s : Rank) × IsSaddle m side a b s × IsNotAbove (below_by side) s t
  JoinedBy-saddle t a b point ne j =
      let low : IsNotAbove (below_by side) a t = not_above_level m side t a b ne j in
      let path = path-from_reach (Near m) (below_by side) (below_by-order side) t low j in
      let s = saddle-exists m side a b path.0 (record { point = point; leads = path.1 }) in
      (s.0, s.1, (level-from_saddle m side a b s.0 s.1).least t low j)

  pub record AreOwners (kept : List Rank) (owner : Rank → Rank) : Type 0 where
    pub in_order : AllPairs (λ a b. a.index < b.index) kept
    pub among : (q : Rank) → Contains kept q → IsPit m side q
    pub own : (q : Rank) → Contains kept q → owner q ≡ q
    pub kept_owner : (r : Rank) → IsPit m side r → Contains kept (owner r)
    pub joined : (t p q : Rank) → IsPit m side p → IsPit m side q → JoinedBy m side t p q → (owner p ≡ owner q) ⊎ JoinedBy m side t p (owner p)

  -- at first each pit is its own owner
  pub AreOwners-first : (pits : List Rank) → ((p : Rank) → Contains pits p → IsPit m side p) → ((p : Rank) → IsPit m side p → Contains pits p)
      → AllPairs (λ a b. a.index < b.index) pits → AreOwners pits (λ p. p)
  AreOwners-first pits is_pit listed ordered = record { in_order = ordered; among = is_pit; own = λ q at. refl; kept_owner = listed; joined = λ t p q is is' j. inr here }

  -- a step keeps that
  module _ (thousandths : ℕ) (sz : ℤ) (kept : List Rank) (owner : Rank → Rank) (w : AreOwners kept owner) (x : Leaving) (taken : IsPruneStep m side thousandths sz kept owner x) where
    abbrev p : Rank
    p = x.pit

    abbrev s : Rank
    s = x.saddle

    abbrev o : Rank
    o = x.into

    abbrev after : Rank → Rank
    after = handed (below_by side) p o owner

    pit : IsPit m side p
    pit = w.among p taken.smallest.is_kept

    -- the pit that leaves is joined with the pit that takes over at its nearest saddle, and that is another kept one
    across : JoinedBy m side s p o × Contains kept o × (o ≢ p)
    across =
        let beyond = taken.taken_over.across.beyond in
        let b : Rank = taken.taken_over.neighbour in
        let r : Rank = taken.taken_over.root in
        let q = taken.smallest.nearest.reached in
        let path = q.3.reached in
        let low : IsNotAbove (below_by side) b s = below-not_above (below_by side) (below_by-order side) b s beyond.lower.below in
        let to_root : JoinedBy m side s s r = step (beyond.lower.near, (below_by-order side).irreflexive s, low) (root-reached m side b r s beyond.root low) in
        let pr : JoinedBy m side s p r = joined_along m side s p s r (joined-top m side p q.0 s path.0 path.1.leads path.2.none_above path.2.one_of) to_root in
        let root_pit : IsPit m side r = root-is_pit m side b r beyond.root in
        let po : JoinedBy m side s p (owner r) = elim (w.joined s r p root_pit pit (joined_both m side s p r pr)) [
          | inl e ↦ absurd (beyond.not_own (e ∙ w.own p taken.smallest.is_kept))
          | inr j ↦ joined_along m side s p r (owner r) pr j
        ] in
        subst (λ (z : Rank). JoinedBy m side s p z × Contains kept z × (z ≢ p)) (sym taken.taken_over.into) (po, w.kept_owner r root_pit, beyond.not_own)

    stays : (r : Rank) → owner r ≢ p → after r ≡ owner r
    stays r ne = handed-stays (below_by side) (below_by-order side) p o owner r ne

    over_to : (r : Rank) → owner r ≡ p → after r ≡ o
    over_to r e = handed-over (below_by side) (below_by-order side) p o owner r e

    or_not : (r : Rank) → (owner r ≡ p) ⊎ (owner r ≢ p)
    or_not r = same_or_not (below_by side) (below_by-order side) (owner r) p

    -- what p owned is joined with its new owner where it was joined with another kept pit
    taken_along : (t q k : Rank) → Contains kept k → k ≢ p → JoinedBy m side t q p → JoinedBy m side t q k → JoinedBy m side t q o
    taken_along t q k at ne qp qk =
        let pk : JoinedBy m side t p k = joined_along m side t p q k (joined_both m side t q p qp) qk in
        let u = JoinedBy-saddle t p k pit.point ne pk in
        let low : IsNotAbove (below_by side) s t = not_above-trans (below_by side) (below_by-order side) s u.0 t (taken.smallest.nearest.least k u.0 at ne u.1) u.2 in
        joined_along m side t q p o qp (joined_higher m side s t p o low across.0)

    after-joined : (t q k : Rank) → IsPit m side q → IsPit m side k → JoinedBy m side t q k → (after q ≡ after k) ⊎ JoinedBy m side t q (after q)
    after-joined t q k is is' j = elim (w.joined t q k is is' j) [
      | inl e ↦ inl (ap (λ v. cond (differ (below_by side) p v) v o) e)
      | inr own ↦ elim (or_not q) [
        | inr ne ↦ inr (subst (λ (z : Rank). JoinedBy m side t q z) (sym (stays q ne)) own)
        | inl e ↦ elim (or_not k) [
          | inl f ↦ inl (over_to q e ∙ sym (over_to k f))
          | inr nf ↦ elim (w.joined t k q is' is (joined_both m side t q k j)) [
            | inl f ↦ absurd (nf (f ∙ e))
            | inr other ↦ inr (subst (λ (z : Rank). JoinedBy m side t q z) (sym (over_to q e))
                (taken_along t q (owner k) (w.kept_owner k is') nf (subst (λ (z : Rank). JoinedBy m side t q z) e own) (joined_along m side t q k (owner k) j other)))
          ]
        ]
      ]
    ]

    owners-step : AreOwners (without (below_by side) p kept) after
    owners-step = record {
      in_order = AllPairs-filter (λ (a : Rank) (b : Rank). a.index < b.index) (λ q. differ (below_by side) p q) kept w.in_order;
      among = λ q at. w.among q (Contains-without (below_by side) (below_by-order side) p q kept at).0;
      own = λ q at. (let k = Contains-without (below_by side) (below_by-order side) p q kept at in
          let e : owner q ≡ q = w.own q k.0 in
          stays q (λ f. k.1 (sym e ∙ f)) ∙ e);
      kept_owner = λ r is. elim (or_not r) [
        | inl e ↦ subst (λ (z : Rank). Contains (without (below_by side) p kept) z) (sym (over_to r e)) (without-Contains (below_by side) (below_by-order side) p o kept across.1 across.2)
        | inr ne ↦ subst (λ (z : Rank). Contains (without (below_by side) p kept) z) (sym (stays r ne)) (without-Contains (below_by side) (below_by-order side) p (owner r) kept (w.kept_owner r is) ne)
      ];
      joined = after-joined;
    }

  owners-last : (thousandths : ℕ) (sz : ℤ) {kept last : List Rank} {owner ends : Rank → Rank} {steps : List Leaving} → AreOwners kept owner
      → Prunes m side thousandths sz kept owner steps last ends → AreOwners last ends
  owners-last thousandths sz w (over none) = w
  owners-last thousandths sz {kept} {last} {owner} {ends} w (goes_on {x = x} taken rest) = owners-last thousandths sz (owners-step thousandths sz kept owner w x taken) rest

  -- and so at its end
  pub AreOwners-pruned : (thousandths : ℕ) (steps : List Leaving) (last : List Rank) (owner : Rank → Rank) → IsPruning m side thousandths steps last owner → AreOwners last owner
  AreOwners-pruned thousandths steps last owner pruning =
      owners-last thousandths pruning.sz (AreOwners-first pruning.pits (λ p at. (pruning.are_pits.exactly p).0 at) (λ p is. (pruning.are_pits.exactly p).1 is) pruning.are_pits.in_order) pruning.prunes

  module _ (last : List Rank) (owner : Rank → Rank) (w : AreOwners last owner) where
    -- the owners of two neighbours are joined at the higher of these, where they are different
    pub JoinedBy-neighbours : (x y r q : Rank) → Near m x y → IsRoot m side x r → IsRoot m side y q → owner r ≢ owner q → JoinedBy m side (higher_by side x y) (owner r) (owner q)
    JoinedBy-neighbours x y r q near root root' apart =
        let t : Rank = higher_by side x y in
        let bounds = higher-bounds side x y in
        let xr : JoinedBy m side t x r = root-reached m side x r t root bounds.0 in
        let yq : JoinedBy m side t y q = root-reached m side y q t root' bounds.1 in
        let rq : JoinedBy m side t r q = joined_along m side t r x q (joined_both m side t x r xr) (step (near, bounds.0, bounds.1) yq) in
        let is : IsPit m side r = root-is_pit m side x r root in
        let is' : IsPit m side q = root-is_pit m side y q root' in
        let first : JoinedBy m side t r (owner r) = elim (w.joined t r q is is' rq) [ inl e ↦ absurd (apart e) | inr j ↦ j ] in
        let second : JoinedBy m side t q (owner q) = elim (w.joined t q r is' is (joined_both m side t r q rq)) [ inl e ↦ absurd (apart (sym e)) | inr j ↦ j ] in
        joined_along m side t (owner r) r (owner q) (joined_both m side t r (owner r) first) (joined_along m side t r q (owner q) rq second)
