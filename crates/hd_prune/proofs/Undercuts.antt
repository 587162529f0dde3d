-- The pits that are left are those that no lower pit undercuts.
use Rattle.std.proofs.Common.{◌≡◌, ◌≢◌, ℕ, inl, inr, Bool, true, List, [], ◌∷◌, refl, sym, ◌∙◌, ap, subst}
use Rattle.std.specs.Prelude.{Contains}
use Rattle.hd_map.specs.Order.{IsStrictOrder}
use Rattle.hd_map.specs.Pruning.{without}
use Rattle.hd_map.proofs.Levels.{Contains-head, Contains-tail, Contains-cases, Contains-none}
use Rattle.hd_prune.proofs.Levels.{Step, IsSaddle}
use Rattle.hd_prune.proofs.Prunable.{IsPrunable}
use Rattle.hd_prune.proofs.Elder.{AreElderSteps, left_after}
use Rattle.hd_prune.proofs.Nearest.{elder_at, Contains-without, without-Contains}

module _ {V : Type 0} (below : V → V → Bool) (order : IsStrictOrder below) where
  -- what is left after some steps
  pub left-of : (kept : List V) (steps : List (Step V)) (p : V) → Contains (left_after below kept steps) p → Contains kept p × ((x : Step V) → Contains steps x → p ≢ x.pit)
  left-of kept [] p h = (h, λ x at. absurd (Contains-none x at))
  left-of kept (y ∷ ys) p h =
      let r = left-of (without below y.pit kept) ys p h in
      let w = Contains-without below order y.pit p kept r.0 in
      (w.0, λ x at. elim (Contains-cases y x ys at) [ inl e ↦ (λ same. w.1 (same ∙ ap (λ (z : Step V). z.pit) e)) | inr later ↦ r.1 x later ])

  pub of-left : (kept : List V) (steps : List (Step V)) (p : V) → Contains kept p → ((x : Step V) → Contains steps x → p ≢ x.pit) → Contains (left_after below kept steps) p
  of-left kept [] p h f = h
  of-left kept (y ∷ ys) p h f = of-left (without below y.pit kept) ys p (without-Contains below order y.pit p kept h (f y (Contains-head y ys))) (λ x at. f x (Contains-tail y x ys at))

module _ {V : Type 0} (below : V → V → Bool) (Joined : V → V → V → Type 0) (local : V → V → ℕ) (goes : ℕ → Bool)
    (pits : List V) (laws : IsPrunable below Joined local goes pits) (steps : List (Step V)) (elders : AreElderSteps below Joined local goes pits pits steps) where
  -- p meets a lower pit at a saddle where it goes
  pub record IsUndercut (p : V) : Type 0 where
    pub other : V
    pub is_pit : Contains pits other
    pub lower : below other p ≡ true
    pub saddle : V
    pub is_saddle : IsSaddle below Joined p other saddle
    pub goes_away : goes (local p saddle) ≡ true

  pub leaves-undercut : (x : Step V) → Contains steps x → IsUndercut x.pit
  leaves-undercut x at =
      let e = (elders.exactly x).0 at in
      let r = e.elder.reached in
      record { other = r.0; is_pit = r.1; lower = r.2; saddle = x.saddle; is_saddle = r.3; goes_away = e.goes_away }

  pub undercut-leaves : (p : V) → Contains pits p → IsUndercut p → (x : Step V) × Contains steps x × (x.pit ≡ p)
  undercut-leaves p hp u =
      let e = elder_at below Joined local goes pits laws p u.saddle u.other hp u.is_pit u.lower u.is_saddle.joined in
      let x : Step V = record { pit = p; saddle = e.0 } in (
        x,
        (elders.exactly x).1 (record {
          is_kept = hp;
          elder = e.1;
          goes_away = laws.lower_goes (local p e.0) (local p u.saddle) (laws.higher_saddle p e.0 u.saddle e.2) u.goes_away;
        }),
        refl,
      )

  -- a pit is left exactly where it is not undercut
  pub left-not_undercut : (p : V) → Contains (left_after below pits steps) p → IsUndercut p → ⊥
  left-not_undercut p h u =
      let r = left-of below laws.order pits steps p h in
      let x = undercut-leaves p r.0 u in
      r.1 x.0 x.1 (sym x.2)

  pub not_undercut-left : (p : V) → Contains pits p → (IsUndercut p → ⊥) → Contains (left_after below pits steps) p
  not_undercut-left p h f = of-left below laws.order pits steps p h (λ x at same. f (subst (λ z. IsUndercut z) (sym same) (leaves-undercut x at)))
