-- A kept pit reaches no lower pit within its threshold: so it reaches nothing below it, and no point is reached
-- from two kept pits.
use Rattle.std.proofs.Common.{◌≡◌, ◌∙◌, ◌<◌, ℕ, zero, suc, ℤ, true, false, List, inl, inr, refl, sym, subst, arith}
use Rattle.std.specs.Prelude.{Contains, ◌↔◌}
use Rattle.std.proofs.lemmas.Bool.{false≢true}
use Rattle.std.proofs.lemmas.List.Elements.{All-contains}
use Rattle.hd_map.specs.declared.types.Rank.{Rank}
use Rattle.hd_map.specs.declared.types.SideName.{SideName}
use Rattle.hd_map.specs.Map.{Map, IsMap}
use Rattle.hd_map.specs.Order.{IsNotAbove}
use Rattle.hd_map.specs.Path.{IsPath}
use Rattle.hd_map.specs.Rank.{IsPoint, Near, below_by}
use Rattle.hd_map.specs.Region.{IsPit, LowerNeighbour}
use Rattle.hd_map.specs.SideLaws.{below_by-order}
use Rattle.hd_map.specs.Undercut.{Undercuts}
use Rattle.hd_map.proofs.Depth.{depth_by, depth_falls}
use Rattle.hd_map.proofs.Items.{Contains-cases}
use Rattle.hd_map.proofs.Levels.{reach-trans, top_of}
use Rattle.hd_map.proofs.Points.{Near-to, Near-apart}
use Rattle.hd_map.proofs.Saddles.{saddle-exists, saddle-above_pit}
use Rattle.hd_map.proofs.Order.{compare, below-apart, below-not_above}
use Rattle.hd_audit.specs.Rules.{IsWithin}
use Rattle.hd_audit.proofs.Within.{IsWithin-lower, IsWithin-higher, goes-within, Reach-first_step, StepsWithin, ReachesWithin, ReachesWithin-points}
use Rattle.hd_audit.proofs.Within.{ReachesWithin-more, ReachesWithin-last, ReachesWithin-point, ReachesWithin-back, ReachesWithin-higher}

-- the pits that no pit undercuts
abbrev pub AreFirm : Map → SideName → ℕ → ℤ → List Rank → Type 0
AreFirm m side thousandths sz kept = (p : Rank) → Contains kept p ↔ (IsPit m side p × ((q : Rank) → Undercuts m side thousandths sz q p → ⊥))

module _ (m : Map) (side : SideName) where
  -- a pit is below what is near it
  pub below_by-pit : (p z : Rank) → IsPit m side p → Near m p z → below_by side p z ≡ true
  below_by-pit p z pit near = elim (compare (below_by side) (below_by-order side) p z) [
    | inl up ↦ up
    | inr r ↦ elim r [
      | inl down ↦ absurd (pit.alone z (record { near = near; below = down }))
      | inr same ↦ absurd (Near-apart m p z near same)
    ]
  ]

  module _ (whole : IsMap m) where
    -- what is kept by each step to a lower neighbour, and holds of no pit, holds of no point
    falls : (Q : Rank → Type 0) → ((x y : Rank) → Q x → LowerNeighbour m side x y → Q y) → ((q : Rank) → IsPit m side q → Q q → ⊥) → (n : ℕ) (x : Rank) → IsPoint m x → depth_by side x < n → Q x → ⊥
    falls Q go stop zero x point less q = omega (arith, less)
    falls Q go stop (suc n) x point less q = stop x (record {
      point = point;
      alone = λ y l.
          let at = Near-to m x y l.near in
          let less' = depth_falls m side y x whole at point l.below in
          falls Q go stop n y at (omega (arith, less, less')) (go x y q l);
    }) q

    pub LowerNeighbour-none : (Q : Rank → Type 0) → ((x y : Rank) → Q x → LowerNeighbour m side x y → Q y) → ((q : Rank) → IsPit m side q → Q q → ⊥) → (x : Rank) → IsPoint m x → Q x → ⊥
    LowerNeighbour-none Q go stop x point q = falls Q go stop (suc (depth_by side x)) x point (omega arith) q

module _ (m : Map) (side : SideName) (thousandths : ℕ) (sz : ℤ) where
  -- a pit undercuts a higher one that reaches it within its threshold
  pub Undercuts-from_reach : (r q : Rank) → IsPit m side r → IsPit m side q → below_by side q r ≡ true → ReachesWithin m side thousandths sz r r q → Undercuts m side thousandths sz q r
  Undercuts-from_reach r q pit pit' lower reach =
      let p = ReachesWithin-points m side thousandths sz r reach in
      let path : IsPath m r p.0 q = record { point = pit.point; leads = p.1 } in
      let s = saddle-exists m side r q p.0 path in
      let up : below_by side r s.0 ≡ true = saddle-above_pit m side r q s.0 pit (λ e. below-apart (below_by side) (below_by-order side) q r lower (sym e)) s.1 in
      let t = top_of (below_by side) (below_by-order side) r p.0 in
      let low : IsNotAbove (below_by side) s.0 t.0 = s.1.least p.0 t.0 path t.1 in
      let within : IsWithin side thousandths sz r t.0 = elim (Contains-cases r t.0 p.0 t.1.one_of) [
        | inl same ↦ absurd (let e : below_by side r s.0 ≡ false = subst (λ (z : Rank). below_by side z s.0 ≡ false) same low in false≢true (sym e ∙ up))
        | inr later ↦ All-contains (IsWithin side thousandths sz r) p.0 t.0 p.2 later
      ] in
      record {
        is_pit = pit';
        lower = lower;
        saddle = s.0;
        is_saddle = s.1;
        goes_away = goes-within side thousandths sz r s.0 (below-not_above (below_by side) (below_by-order side) r s.0 up) (IsWithin-lower side thousandths sz r t.0 s.0 low within);
      }

  -- where a higher pit reaches what a lower one reaches, the lower one is within the higher
  pit-within : (r q x : Rank) → IsPit m side q → below_by side q r ≡ true → ReachesWithin m side thousandths sz r r x → ReachesWithin m side thousandths sz q q x → IsWithin side thousandths sz r q
  pit-within r q x pit lower mine yours = elim (Reach-first_step yours) [
    | inl e ↦ elim (ReachesWithin-last m side thousandths sz r mine) [
      | inl same ↦ absurd (below-apart (below_by side) (below_by-order side) q r lower (e ∙ sym same))
      | inr w ↦ subst (IsWithin side thousandths sz r) (sym e) w
    ]
    | inr s ↦
        let z : Rank = s.0 in
        let w : IsWithin side thousandths sz r z = IsWithin-higher side thousandths sz q r z (below-not_above (below_by side) (below_by-order side) q r lower) s.1.1 in
        IsWithin-lower side thousandths sz r z q (below-not_above (below_by side) (below_by-order side) q z (below_by-pit m side q z pit s.1.0)) w
  ]

  -- and undercuts it
  undercuts-where_both : (r q x : Rank) → IsPit m side r → IsPit m side q → below_by side q r ≡ true → ReachesWithin m side thousandths sz r r x
      → ReachesWithin m side thousandths sz q q x → Undercuts m side thousandths sz q r
  undercuts-where_both r q x pit pit' lower mine yours =
      let w = pit-within r q x pit' lower mine yours in
      let back = ReachesWithin-back m side thousandths sz r w (ReachesWithin-higher m side thousandths sz q r (below-not_above (below_by side) (below_by-order side) q r lower) yours) in
      Undercuts-from_reach r q pit pit' lower (reach-trans (StepsWithin m side thousandths sz r) mine back)

  module _ (whole : IsMap m) (kept : List Rank) (firm : AreFirm m side thousandths sz kept) where
    -- no point is reached from two kept pits
    pub ReachesWithin-apart : (r q x : Rank) → Contains kept r → Contains kept q → ReachesWithin m side thousandths sz r r x → ReachesWithin m side thousandths sz q q x → r ≡ q
    ReachesWithin-apart r q x in_kept in_kept' mine yours =
        let one = (firm r).0 in_kept in
        let other = (firm q).0 in_kept' in
        elim (compare (below_by side) (below_by-order side) r q) [
          | inl lower ↦ absurd (other.1 r (undercuts-where_both q r x other.0 one.0 lower yours mine))
          | inr rest ↦ elim rest [
            | inl lower ↦ absurd (one.1 q (undercuts-where_both r q x one.0 other.0 lower mine yours))
            | inr same ↦ same
          ]
        ]

    -- what a kept pit reaches is not below it
    pub ReachesWithin-not_below : (r x : Rank) → Contains kept r → ReachesWithin m side thousandths sz r r x → IsNotAbove (below_by side) r x
    ReachesWithin-not_below r x in_kept reach = elim (below_by side x r) as (λ v. below_by side x r ≡ v → v ≡ false) [
      | true ↦ λ e. absurd (
          let one = (firm r).0 in_kept in
          let w : IsWithin side thousandths sz r x = elim (ReachesWithin-last m side thousandths sz r reach) [
            | inl same ↦ absurd (below-apart (below_by side) (below_by-order side) x r e (sym same))
            | inr w ↦ w
          ] in
          LowerNeighbour-none m side whole (λ y. ReachesWithin m side thousandths sz r r y × (below_by side y r ≡ true) × IsWithin side thousandths sz r y)
          (λ y z q l.
          let low = IsWithin-lower side thousandths sz r y z (below-not_above (below_by side) (below_by-order side) z y l.below) q.2 in
          (ReachesWithin-more m side thousandths sz r r y z q.0 l.near low, (below_by-order side).transitive z y r l.below q.1, low))
          (λ q pit h. one.1 q (Undercuts-from_reach r q one.0 pit h.1 h.0))
          x (ReachesWithin-point m side thousandths sz r one.0.point reach) (reach, e, w))
      | false ↦ λ e. refl
    ] refl

    digs : (Q : Rank → Type 0) → ((p q : Rank) → IsPit m side p → Q p → Undercuts m side thousandths sz q p → Q q) → ((r : Rank) → Contains kept r → Q r → ⊥) → (n : ℕ) (p : Rank)
        → IsPit m side p → depth_by side p < n → Q p → ⊥
    digs Q go stop zero p pit less q = omega (arith, less)
    digs Q go stop (suc n) p pit less q = stop p ((firm p).1 (
      pit,
      λ u k.
          let less' = depth_falls m side u p whole k.is_pit.point pit.point k.lower in
          digs Q go stop n u k.is_pit (omega (arith, less, less')) (go p u pit q k),
    )) q

    -- what each pit hands on to those that undercut it, and holds of no kept pit, holds of no pit
    pub Undercuts-none : (Q : Rank → Type 0) → ((p q : Rank) → IsPit m side p → Q p → Undercuts m side thousandths sz q p → Q q) → ((r : Rank) → Contains kept r → Q r → ⊥)
        → (p : Rank) → IsPit m side p → Q p → ⊥
    Undercuts-none Q go stop p pit q = digs Q go stop (suc (depth_by side p)) p pit (omega arith) q
