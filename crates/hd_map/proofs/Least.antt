-- The least level at which something holds, where what holds at a level holds at each that it is not above.
use Rattle.std.proofs.Common.{Bool, ◌⊎◌, inl, inr}
use Rattle.hd_map.specs.Order.{IsNotAbove, IsStrictOrder}
use Rattle.hd_map.proofs.Order.{not_above-refl, not_above-trans, not_above-total}

module _ {V : Type 0} (below : V → V → Bool) (laws : IsStrictOrder below) where
  -- s is the least at which P holds
  pub record IsLeast (P : V → Type 0) (s : V) : Type 0 where
    pub holds : P s
    pub least : (t : V) → P t → IsNotAbove below s t

  -- there is a least at which P holds, or it holds at none
  abbrev pub HasLeast : (V → Type 0) → Type 0
  HasLeast P = ((s : V) × IsLeast P s) ⊎ ((t : V) → P t → ⊥)

  -- what holds at a level holds at each that it is not above
  abbrev pub Rises : (V → Type 0) → Type 0
  Rises P = (t u : V) → IsNotAbove below t u → P t → P u

  -- the least that a point is not above is that point
  pub least-of_not_above : (a : V) → HasLeast (λ t. IsNotAbove below a t)
  least-of_not_above a = inl (a, record { holds = not_above-refl below laws a; least = λ t h. h })

  either-first : (P Q : V → Type 0) (s : V) → IsLeast P s → ((t : V) → Q t → IsNotAbove below s t) → HasLeast (λ t. P t ⊎ Q t)
  either-first P Q s h bound = inl (s, record { holds = inl h.holds; least = λ t k. elim k [ inl one ↦ h.least t one | inr other ↦ bound t other ] })

  either-second : (P Q : V → Type 0) (s : V) → IsLeast Q s → ((t : V) → P t → IsNotAbove below s t) → HasLeast (λ t. P t ⊎ Q t)
  either-second P Q s h bound = inl (s, record { holds = inr h.holds; least = λ t k. elim k [ inl one ↦ bound t one | inr other ↦ h.least t other ] })

  -- where each of two has a least, so has that one or the other holds
  pub least-of_either : (P Q : V → Type 0) → HasLeast P → HasLeast Q → HasLeast (λ t. P t ⊎ Q t)
  least-of_either P Q (inl p) (inl q) = elim (not_above-total below laws p.0 q.0) [
    | inl low ↦ either-first P Q p.0 p.1 (λ t h. not_above-trans below laws p.0 q.0 t low (q.1.least t h))
    | inr low ↦ either-second P Q q.0 q.1 (λ t h. not_above-trans below laws q.0 p.0 t low (p.1.least t h))
  ]
  least-of_either P Q (inl p) (inr none) = either-first P Q p.0 p.1 (λ t h. absurd (none t h))
  least-of_either P Q (inr none) (inl q) = either-second P Q q.0 q.1 (λ t h. absurd (none t h))
  least-of_either P Q (inr none) (inr never) = inr (λ t h. elim h [ inl one ↦ none t one | inr other ↦ never t other ])

  -- and so has that both hold
  pub least-of_both : (P Q : V → Type 0) → Rises P → Rises Q → HasLeast P → HasLeast Q → HasLeast (λ t. P t × Q t)
  least-of_both P Q up up' (inl p) (inl q) = elim (not_above-total below laws p.0 q.0) [
    | inl low ↦ inl (q.0, record { holds = (up p.0 q.0 low p.1.holds, q.1.holds); least = λ t h. q.1.least t h.1 })
    | inr low ↦ inl (p.0, record { holds = (p.1.holds, up' q.0 p.0 low q.1.holds); least = λ t h. p.1.least t h.0 })
  ]
  least-of_both P Q up up' (inl p) (inr none) = inr (λ t h. none t h.1)
  least-of_both P Q up up' (inr none) q = inr (λ t h. none t h.0)

  -- with what does not depend on the level
  pub least-where : (P : V → Type 0) (D : Type 0) → D ⊎ (D → ⊥) → HasLeast P → HasLeast (λ t. D × P t)
  least-where P D (inl here) (inl p) = inl (p.0, record { holds = (here, p.1.holds); least = λ t h. p.1.least t h.1 })
  least-where P D (inl here) (inr none) = inr (λ t h. none t h.1)
  least-where P D (inr not) p = inr (λ t h. not h.0)
