-- Passes and saddles: no pass is below the saddle of its two pits, and the nearest saddle of a kept pit is the pass of one of its border lines.
use Rattle.std.proofs.Common.{◌≡◌, ◌≢◌, ◌⊎◌, ◌∙◌, ℕ, true, cond, inl, inr, List, refl, sym, ap, subst, arith}
use Rattle.std.specs.Prelude.{Contains}
use Rattle.hd_map.specs.declared.types.Rank.{Rank}
use Rattle.hd_map.specs.declared.types.SideName.{SideName}
use Rattle.hd_map.specs.Map.{IsMap, Map}
use Rattle.hd_map.specs.NearestSaddle.{IsNearestSaddle}
use Rattle.hd_map.specs.Order.{IsNotAbove}
use Rattle.hd_map.specs.Passes.{higher_by}
use Rattle.hd_map.specs.Pruning.{IsPruning, Leaving}
use Rattle.hd_map.specs.Rank.{Near, below_by}
use Rattle.hd_map.specs.Region.{IsPit, IsRoot}
use Rattle.hd_map.specs.Saddle.{IsSaddle}
use Rattle.hd_map.specs.SideLaws.{below_by-order}
use Rattle.hd_map.proofs.Levels.{here, same_or_not, step}
use Rattle.hd_map.proofs.Nexts.{root-is_pit, root-of_pit}
use Rattle.hd_map.proofs.Points.{Near-from, same_index}
use Rattle.hd_map.proofs.Saddles.{level-from_saddle, near-sym, saddle-above_pits, saddle-point, saddle-sym}
use Rattle.hd_map.proofs.Order.{below-not_above, not_above-trans}
use Rattle.hd_map.proofs.Higher.{higher-bounds, higher-sym}
use Rattle.hd_map.proofs.Places.{less_same_more}
use Rattle.hd_prune.proofs.Existing.{root_of}
use Rattle.hd_prune.proofs.MapOwners.{below_or_same, root-reached}
use Rattle.hd_prune.proofs.JoinedByPaths.{JoinedBy, joined_along, joined_both, joined_higher, not_above_level}
use Rattle.hd_lines.specs.declared.line.BorderLine.{BorderLine}
use Rattle.hd_steep.specs.Pairs.{IsAcross}
use Rattle.hd_lines.specs.Lines.{AreBorderLines, IsBorderLine, IsOwnedBy}
use Rattle.hd_lines.proofs.Owners.{AreOwners, JoinedBy-neighbours, AreOwners-pruned, JoinedBy-saddle}
use Rattle.hd_lines.proofs.FirstJoins.{higher_by-below}

module _ (m : Map) (side : SideName) (last : List Rank) (owner : Rank → Rank) (w : AreOwners m side last owner) where
  -- the pass of a border line is not below the saddle of its pits
  pass-above : (line : BorderLine) → IsBorderLine m side last owner line → (s : Rank) × IsSaddle m side line.a line.b s × IsNotAbove (below_by side) s line.pass
  pass-above line is =
      let r = is.pairs.reached in
      let from = r.1.from_in in
      let to = r.1.to_in in
      let apart : line.a ≢ line.b = λ e. (let less = is.lesser in let same : line.a.index ≡ line.b.index = ap (λ (z : Rank). z.index) e in omega arith) in
      let joined = JoinedBy-neighbours m side last owner w r.0.from r.0.to from.root to.root r.1.near from.is_root to.is_root (λ e. apart (sym from.owned ∙ e ∙ to.owned)) in
      JoinedBy-saddle m side line.pass line.a line.b (w.among line.a is.first).point (λ e. apart (sym e))
      (subst (λ (t : Rank). JoinedBy m side t line.a line.b) (sym r.2) (subst (λ (a : Rank). JoinedBy m side (higher_by side r.0.from r.0.to) a line.b) from.owned
      (subst (λ (b : Rank). JoinedBy m side (higher_by side r.0.from r.0.to) (owner from.root) b) to.owned joined)))

  -- a point that is joined with a pit has its root joined with it
  root-joined : (t a x r : Rank) → IsPit m side a → IsRoot m side x r → JoinedBy m side t a x → JoinedBy m side t a r
  root-joined t a x r pit root j = elim (same_or_not (below_by side) (below_by-order side) x a) [
    | inl e ↦ subst (λ (z : Rank). JoinedBy m side t a z) (sym (root-of_pit m side a r pit (subst (λ (z : Rank). IsRoot m side z r) e root))) here
    | inr ne ↦ joined_along m side t a x r j (root-reached m side x r t root (not_above_level m side t x a (λ e. ne (sym e)) (joined_both m side t a x j)))
  ]

  -- a way to a point that ends with a step to s, and is below it up to there
  pub record IsWayTo (a s x : Rank) : Type 0 where
    pub level : Rank
    pub low : below_by side level s ≡ true
    pub near : Near m x s
    pub below : below_by side x s ≡ true
    pub joined : JoinedBy m side level a x

  -- where two are joined at s and not below it, such a way leads from the first
  way-to : (a s b : Rank) → ((t : Rank) → below_by side t s ≡ true → JoinedBy m side t a b → ⊥) → {x : Rank} → JoinedBy m side s x b → (t : Rank) → below_by side t s ≡ true → below_by side x s ≡ true
      → JoinedBy m side t a x → (y : Rank) × IsWayTo a s y
  way-to a s b apart (here {a = x}) t low under j = absurd (apart t low j)
  way-to a s b apart (step {a = x} {b = y} {c = z} st rest) t low under j = elim (below_or_same m side y s st.2) [
    | inl low' ↦
        let v : Rank = higher_by side x y in
        let u : Rank = higher_by side t v in
        let outer = higher-bounds side t v in
        let inner = higher-bounds side x y in
        let to_y : JoinedBy m side u x y = step (
          st.0,
          not_above-trans (below_by side) (below_by-order side) x v u inner.0 outer.1,
          not_above-trans (below_by side) (below_by-order side) y v u inner.1 outer.1,
        ) here in
        way-to a s b apart rest u (higher_by-below side t v s low (higher_by-below side x y s under low')) low' (joined_along m side u a x y (joined_higher m side t u a x outer.0 j) to_y)
    | inr e ↦ (x, record { level = t; low = low; near = subst (λ (c : Rank). Near m x c) e st.0; below = under; joined = j })
  ]

  module _ (whole : IsMap m) (p s : Rank) (at : Contains last p) (nearest : IsNearestSaddle m side last p s) where
    abbrev q : Rank
    q = nearest.reached.0

    pit : IsPit m side p
    pit = w.among p at

    other : IsPit m side q
    other = w.among q nearest.reached.1

    -- no kept pit is joined with it below the saddle
    none-below : (t o : Rank) → Contains last o → o ≢ p → below_by side t s ≡ true → JoinedBy m side t p o → ⊥
    none-below t o at_o ne low j =
        let u = JoinedBy-saddle m side t p o pit.point ne j in
        let high : IsNotAbove (below_by side) s t = not_above-trans (below_by side) (below_by-order side) s u.0 t (nearest.least o u.0 at_o ne u.1) u.2 in
        cc

    -- what it reaches below the saddle it owns
    owns-below : (t x r : Rank) → IsRoot m side x r → below_by side t s ≡ true → JoinedBy m side t p x → owner r ≡ p
    owns-below t x r root low j =
        let is : IsPit m side r = root-is_pit m side x r root in
        let pr : JoinedBy m side t p r = root-joined t p x r pit root j in
        elim (w.joined t r p is pit (joined_both m side t p r pr)) [
          | inl e ↦ e ∙ w.own p at
          | inr own ↦ elim (same_or_not (below_by side) (below_by-order side) (owner r) p) [
            | inl e ↦ e
            | inr ne ↦ absurd (none-below t (owner r) (w.kept_owner r is) ne low (joined_along m side t p r (owner r) pr own))
          ]
        ]

    -- what another kept pit reaches below the saddle that is the nearest of both it does not own
    owned-elsewhere : (t x r : Rank) → IsRoot m side x r → below_by side t s ≡ true → JoinedBy m side t q x → owner r ≢ p
    owned-elsewhere t x r root low j e =
        let is : IsPit m side r = root-is_pit m side x r root in
        let qr : JoinedBy m side t q r = root-joined t q x r other root j in
        elim (w.joined t r q is other (joined_both m side t q r qr)) [
          | inl same ↦ nearest.reached.2 (sym (sym e ∙ same ∙ w.own q nearest.reached.1))
          | inr own ↦ none-below t q nearest.reached.1 nearest.reached.2 low (joined_both m side t q p (joined_along m side t q r p qr (subst (λ (z : Rank). JoinedBy m side t r z) e own)))
        ]

    -- two neighbours of which s is the higher, one owned by the pit and the other not
    pub record IsBeside (x y : Rank) : Type 0 where
      pub near : Near m x y
      pub higher : higher_by side x y ≡ s
      pub root : Rank
      pub is_root : IsRoot m side x root
      pub owned : owner root ≡ p
      pub far : Rank
      pub is_far : IsRoot m side y far
      pub elsewhere : owner far ≢ p

    joined : JoinedBy m side s p q
    joined = (level-from_saddle m side p q s nearest.reached.3).joined

    under : (below_by side p s ≡ true) × (below_by side q s ≡ true)
    under = saddle-above_pits m side p q s pit other (λ e. nearest.reached.2 (sym e)) nearest.reached.3

    higher-first : (x : Rank) → below_by side x s ≡ true → higher_by side x s ≡ s
    higher-first x low = ap (λ v. cond v s x) low

    higher-second : (x : Rank) → below_by side x s ≡ true → higher_by side s x ≡ s
    higher-second x low = ap (λ v. cond v x s) (below-not_above (below_by side) (below_by-order side) x s low)

    beside : (x : Rank) × (y : Rank) × IsBeside x y
    beside =
        let first = way-to p s q (λ t low j. none-below t q nearest.reached.1 nearest.reached.2 low j) joined p under.0 under.0 here in
        let second = way-to q s p (λ t low j. none-below t q nearest.reached.1 nearest.reached.2 low (joined_both m side t q p j)) (joined_both m side s p q joined) q under.1 under.1 here in
        let root = root_of m whole side s (saddle-point m side p q s nearest.reached.3) in
        let near = first.1 in
        let far = second.1 in
        let near_root = root_of m whole side first.0 (Near-from m first.0 s near.near) in
        let far_root = root_of m whole side second.0 (Near-from m second.0 s far.near) in
        elim (same_or_not (below_by side) (below_by-order side) (owner root.0) p) [
          | inl e ↦ (
            s,
            second.0,
            record {
              near = near-sym m second.0 s far.near;
              higher = higher-second second.0 far.below;
              root = root.0;
              is_root = root.1;
              owned = e;
              far = far_root.0;
              is_far = far_root.1;
              elsewhere = owned-elsewhere far.level second.0 far_root.0 far_root.1 far.low far.joined;
            },
          )
          | inr ne ↦ (
            first.0,
            s,
            record {
              near = near.near;
              higher = higher-first first.0 near.below;
              root = near_root.0;
              is_root = near_root.1;
              owned = owns-below near.level first.0 near_root.0 near_root.1 near.low near.joined;
              far = root.0;
              is_far = root.1;
              elsewhere = ne;
            },
          )
        ]

    -- a border line of the pit whose pass is not above the saddle is at it
    line-at : (line : BorderLine) → IsBorderLine m side last owner line → (o : Rank) → Contains last o → o ≢ p
        → ((u : Rank) → IsSaddle m side line.a line.b u → IsSaddle m side p o u) → IsNotAbove (below_by side) line.pass s
        → (line.pass ≡ s) × (line.on_saddle ≡ true)
    line-at line is o at_o ne turned low =
        let u = pass-above line is in
        let high : IsNotAbove (below_by side) s u.0 = nearest.least o u.0 at_o ne (turned u.0 u.1) in
        let same : line.pass ≡ s = (below_by-order side).total line.pass s (not_above-trans (below_by side) (below_by-order side) s u.0 line.pass high u.2) low in
        let at_pass : u.0 ≡ line.pass = (below_by-order side).total u.0 line.pass (subst (λ (z : Rank). IsNotAbove (below_by side) z u.0) (sym same) high) u.2 in
        (same, is.on_saddle.1 (subst (λ (z : Rank). IsSaddle m side line.a line.b z) at_pass u.1))

    line-nearest : (lines : List BorderLine) → AreBorderLines m side last owner lines → (line : BorderLine) × Contains lines line × ((line.a ≡ p) ⊎ (line.b ≡ p)) × (line.pass ≡ s)
        × (line.on_saddle ≡ true)
    line-nearest lines are =
        let x : Rank = beside.0 in
        let y : Rank = beside.1 in
        let b = beside.2 in
        let o : Rank = owner b.far in
        let at_o : Contains last o = w.kept_owner b.far (root-is_pit m side y b.far b.is_far) in
        let mine : IsOwnedBy m side owner x p = record { root = b.root; is_root = b.is_root; owned = b.owned } in
        let theirs : IsOwnedBy m side owner y o = record { root = b.far; is_root = b.is_far; owned = refl } in
        elim (less_same_more p.index o.index) [
          | inl less ↦
              let across : IsAcross m (IsOwnedBy m side owner) p o (record { from = x; to = y }) = record { near = b.near; from_in = mine; to_in = theirs } in
              let l = are.all p o (record { from = x; to = y }) at at_o less across in
              let is = are.each l.0 l.1 in
              let low = is.pairs.least (record { from = x; to = y }) (subst (λ (z : Rank). IsAcross m (IsOwnedBy m side owner) z (l.0).b (record { from = x; to = y })) (sym l.2)
              (subst (λ (z : Rank). IsAcross m (IsOwnedBy m side owner) p z (record { from = x; to = y })) (sym l.3) across)) in
              let at_s = line-at l.0 is o at_o b.elsewhere (λ u h. subst (λ (z : Rank). IsSaddle m side z o u) l.2 (subst (λ (z : Rank). IsSaddle m side (l.0).a z u) l.3 h))
              (subst (λ (z : Rank). IsNotAbove (below_by side) (l.0).pass z) b.higher low) in
              (l.0, l.1, inl l.2, at_s.0, at_s.1)
          | inr more ↦ elim more [
            | inl same ↦ absurd (b.elsewhere (sym (same_index m p o pit.point (w.among o at_o).point same)))
            | inr less ↦
                let across : IsAcross m (IsOwnedBy m side owner) o p (record { from = y; to = x }) = record { near = near-sym m x y b.near; from_in = theirs; to_in = mine } in
                let l = are.all o p (record { from = y; to = x }) at_o at less across in
                let is = are.each l.0 l.1 in
                let low = is.pairs.least (record { from = y; to = x }) (subst (λ (z : Rank). IsAcross m (IsOwnedBy m side owner) z (l.0).b (record { from = y; to = x })) (sym l.2)
                (subst (λ (z : Rank). IsAcross m (IsOwnedBy m side owner) o z (record { from = y; to = x })) (sym l.3) across)) in
                let at_s = line-at l.0 is o at_o b.elsewhere (λ u h. saddle-sym m side o p u
                (subst (λ (z : Rank). IsSaddle m side z p u) l.2 (subst (λ (z : Rank). IsSaddle m side (l.0).a z u) l.3 h)))
                (subst (λ (z : Rank). IsNotAbove (below_by side) (l.0).pass z) (higher-sym side y x ∙ b.higher) low) in
                (l.0, l.1, inr l.3, at_s.0, at_s.1)
          ]
        ]

module _ (m : Map) (side : SideName) (thousandths : ℕ) (steps : List Leaving) (last : List Rank) (owner : Rank → Rank) (lines : List BorderLine) where
  pub AreBorderLines-passes_above : IsPruning m side thousandths steps last owner → AreBorderLines m side last owner lines → (line : BorderLine) → Contains lines line → (s : Rank)
      × IsSaddle m side line.a line.b s × IsNotAbove (below_by side) s line.pass
  AreBorderLines-passes_above pruning are line at = pass-above m side last owner (AreOwners-pruned m side thousandths steps last owner pruning) line (are.each line at)

  pub AreBorderLines-nearest_passes : IsMap m → IsPruning m side thousandths steps last owner → AreBorderLines m side last owner lines → (p s : Rank) → Contains last p
      → IsNearestSaddle m side last p s
      → (line : BorderLine) × Contains lines line × ((line.a ≡ p) ⊎ (line.b ≡ p)) × (line.pass ≡ s) × (line.on_saddle ≡ true)
  AreBorderLines-nearest_passes whole pruning are p s at nearest = line-nearest m side last owner (AreOwners-pruned m side thousandths steps last owner pruning) whole p s at nearest lines are
