-- Two points are joined through a list at a level where a path leads from one to the other whose inner points
-- are of that list and none of whose points is above the level.
use Rattle.std.proofs.Common.{◌≡◌, Bool, List, [], ◌∷◌, ◌⊎◌, inl, inr, refl, subst}
use Rattle.std.specs.Prelude.{Contains}
use Rattle.hd_map.specs.Order.{IsNotAbove, IsStrictOrder}
use Rattle.hd_map.proofs.Items.{Contains-cases, Contains-none}
use Rattle.hd_map.proofs.Least.{HasLeast, least-of_not_above, least-of_either, least-of_both, least-where}
use Rattle.hd_map.proofs.Levels.{Reach, PointStep, IsLevel, here, step, reach-trans, same_or_not}
use Rattle.hd_map.proofs.Order.{not_above-trans}

module _ {V : Type 0} (Near : V → V → Type 0) (below : V → V → Bool) (laws : IsStrictOrder below) where
  -- the same point, or one near it
  abbrev AreBeside : V → V → Type 0
  AreBeside a b = (a ≡ b) ⊎ Near a b

  -- a and b are joined through the list at t
  abbrev pub AreJoinedThrough : List V → V → V → V → Type 0
  AreJoinedThrough [] a b t = AreBeside a b × (IsNotAbove below a t × IsNotAbove below b t)
  AreJoinedThrough (x ∷ xs) a b t = AreJoinedThrough xs a b t ⊎ (AreJoinedThrough xs a x t × AreJoinedThrough xs x b t)

  through-higher : (xs : List V) (a b t u : V) → IsNotAbove below t u → AreJoinedThrough xs a b t → AreJoinedThrough xs a b u
  through-higher [] a b t u low j = (j.0, (not_above-trans below laws a t u j.1.0 low, not_above-trans below laws b t u j.1.1 low))
  through-higher (x ∷ xs) a b t u low (inl j) = inl (through-higher xs a b t u low j)
  through-higher (x ∷ xs) a b t u low (inr j) = inr (through-higher xs a x t u low j.0, through-higher xs x b t u low j.1)

  -- what is joined at a level is not above it
  through-low : (xs : List V) (a b t : V) → AreJoinedThrough xs a b t → IsNotAbove below a t
  through-low [] a b t j = j.1.0
  through-low (x ∷ xs) a b t (inl j) = through-low xs a b t j
  through-low (x ∷ xs) a b t (inr j) = through-low xs a x t j.0

  reach-from_through : (xs : List V) (a b t : V) → AreJoinedThrough xs a b t → Reach (PointStep Near below t) a b
  reach-from_through [] a b t (inl same, low) = subst (λ c. Reach (PointStep Near below t) a c) same here
  reach-from_through [] a b t (inr near, low) = step (near, low.0, low.1) here
  reach-from_through (x ∷ xs) a b t (inl j) = reach-from_through xs a b t j
  reach-from_through (x ∷ xs) a b t (inr j) = reach-trans (PointStep Near below t) (reach-from_through xs a x t j.0) (reach-from_through xs x b t j.1)

  through-beside : (xs : List V) (a b t : V) → AreJoinedThrough [] a b t → AreJoinedThrough xs a b t
  through-beside [] a b t j = j
  through-beside (x ∷ xs) a b t j = inl (through-beside xs a b t j)

  -- from either end to the head of the list
  to_head : (x : V) (xs : List V) (a t : V) → AreJoinedThrough (x ∷ xs) a x t → AreJoinedThrough xs a x t
  to_head x xs a t (inl j) = j
  to_head x xs a t (inr j) = j.0

  from_head : (x : V) (xs : List V) (b t : V) → AreJoinedThrough (x ∷ xs) x b t → AreJoinedThrough xs x b t
  from_head x xs b t (inl j) = j
  from_head x xs b t (inr j) = j.1

  through-trans : (xs : List V) (a b c t : V) → Contains xs b → AreJoinedThrough xs a b t → AreJoinedThrough xs b c t → AreJoinedThrough xs a c t
  through-trans [] a b c t at j k = absurd (Contains-none b at)
  through-trans (x ∷ xs) a b c t at j k = elim (Contains-cases x b xs at) [
    | inl same ↦ inr (to_head x xs a t (subst (λ y. AreJoinedThrough (x ∷ xs) a y t) same j), from_head x xs c t (subst (λ y. AreJoinedThrough (x ∷ xs) y c t) same k))
    | inr later ↦ elim j [
      | inl first ↦ elim k [
        | inl second ↦ inl (through-trans xs a b c t later first second)
        | inr second ↦ inr (through-trans xs a b x t later first second.0, second.1)
      ]
      | inr first ↦ elim k [
        | inl second ↦ inr (first.0, through-trans xs x b c t later first.1 second)
        | inr second ↦ inr (first.0, second.1)
      ]
    ]
  ]

  module _ (decided : (a b : V) → Near a b ⊎ (Near a b → ⊥)) where
    beside_or_not : (a b : V) → AreBeside a b ⊎ (AreBeside a b → ⊥)
    beside_or_not a b = elim (same_or_not below laws a b) [
      | inl same ↦ inl (inl same)
      | inr apart ↦ elim (decided a b) [
        | inl near ↦ inl (inr near)
        | inr far ↦ inr (λ h. elim h [ inl same ↦ apart same | inr near ↦ far near ])
      ]
    ]

    -- there is a least level at which two are joined through a list, or none
    least-through : (xs : List V) (a b : V) → HasLeast below laws (AreJoinedThrough xs a b)
    least-through [] a b = least-where below laws (λ t. IsNotAbove below a t × IsNotAbove below b t) (AreBeside a b) (beside_or_not a b)
        (least-of_both below laws (λ t. IsNotAbove below a t) (λ t. IsNotAbove below b t)
        (λ t u low h. not_above-trans below laws a t u h low) (λ t u low h. not_above-trans below laws b t u h low)
        (least-of_not_above below laws a) (least-of_not_above below laws b))
    least-through (x ∷ xs) a b = least-of_either below laws (AreJoinedThrough xs a b) (λ t. AreJoinedThrough xs a x t × AreJoinedThrough xs x b t) (least-through xs a b)
        (least-of_both below laws (AreJoinedThrough xs a x) (AreJoinedThrough xs x b) (through-higher xs a x) (through-higher xs x b) (least-through xs a x) (least-through xs x b))

    module _ (xs : List V) (all : (a b : V) → Near a b → Contains xs b) where
      -- through a list of all points any two are joined that are joined
      through-from_reach : (t : V) {a b : V} → IsNotAbove below a t → Reach (PointStep Near below t) a b → AreJoinedThrough xs a b t
      through-from_reach t low (here {a}) = through-beside xs a a t (inl refl, (low, low))
      through-from_reach t low (step {a} {b} {c} s r) =
          through-trans xs a b c t (all a b s.0) (through-beside xs a b t (inr s.0, (low, s.2))) (through-from_reach t s.2 r)

      -- where two of finitely many points are joined there is a least level of that
      pub level_exists : (t a b : V) → IsNotAbove below a t → Reach (PointStep Near below t) a b → (s : V) × IsLevel Near below laws a b s
      level_exists t a b low r = elim (least-through xs a b) [
        | inl found ↦ (
          found.0,
          record {
            from_low = through-low xs a b found.0 found.1.holds;
            joined = reach-from_through xs a b found.0 found.1.holds;
            least = λ u under path. found.1.least u (through-from_reach u under path);
          },
        )
        | inr none ↦ absurd (none t (through-from_reach t low r))
      ]
