-- Of finitely many points it is decided which are reached from which.
use Rattle.std.proofs.Common.{◌≡◌, List, [], ◌∷◌, ◌⊎◌, inl, inr, refl, subst}
use Rattle.std.specs.Prelude.{Contains}
use Rattle.hd_map.proofs.Decided.{IsDecided}
use Rattle.hd_map.proofs.Levels.{Reach, here, step, reach-trans, Contains-cases, Contains-none}

module _ {V : Type 0} (R : V → V → Type 0) where
  -- from a to b by steps, between which there are points of the list alone
  abbrev Through : List V → V → V → Type 0
  Through [] a b = (a ≡ b) ⊎ R a b
  Through (x ∷ xs) a b = Through xs a b ⊎ (Through xs a x × Through xs x b)

  reach-from_through : (xs : List V) (a b : V) → Through xs a b → Reach R a b
  reach-from_through [] a b (inl same) = subst (λ c. Reach R a c) same here
  reach-from_through [] a b (inr r) = step r here
  reach-from_through (x ∷ xs) a b (inl h) = reach-from_through xs a b h
  reach-from_through (x ∷ xs) a b (inr h) = reach-trans R (reach-from_through xs a x h.0) (reach-from_through xs x b h.1)

  through-beside : (xs : List V) (a b : V) → Through [] a b → Through xs a b
  through-beside [] a b h = h
  through-beside (x ∷ xs) a b h = inl (through-beside xs a b h)

  -- from either end to the head of the list
  to_head : (x : V) (xs : List V) (a : V) → Through (x ∷ xs) a x → Through xs a x
  to_head x xs a (inl h) = h
  to_head x xs a (inr h) = h.0

  from_head : (x : V) (xs : List V) (b : V) → Through (x ∷ xs) x b → Through xs x b
  from_head x xs b (inl h) = h
  from_head x xs b (inr h) = h.1

  through-trans : (xs : List V) (a b c : V) → Contains xs b → Through xs a b → Through xs b c → Through xs a c
  through-trans [] a b c at h k = absurd (Contains-none b at)
  through-trans (x ∷ xs) a b c at h k = elim (Contains-cases x b xs at) [
    | inl same ↦ inr (to_head x xs a (subst (λ y. Through (x ∷ xs) a y) same h), from_head x xs c (subst (λ y. Through (x ∷ xs) y c) same k))
    | inr later ↦ elim h [
      | inl first ↦ elim k [
        | inl second ↦ inl (through-trans xs a b c later first second)
        | inr second ↦ inr (through-trans xs a b x later first second.0, second.1)
      ]
      | inr first ↦ elim k [
        | inl second ↦ inr (first.0, through-trans xs x b c later first.1 second)
        | inr second ↦ inr (first.0, second.1)
      ]
    ]
  ]

  module _ (same_or_not : (a b : V) → IsDecided (a ≡ b)) (step_or_not : (a b : V) → IsDecided (R a b)) where
    through_or_not : (xs : List V) (a b : V) → IsDecided (Through xs a b)
    through_or_not [] a b = elim (same_or_not a b) [
      | inl same ↦ inl (inl same)
      | inr apart ↦ elim (step_or_not a b) [
        | inl r ↦ inl (inr r)
        | inr not ↦ inr (λ h. elim h [ inl same ↦ apart same | inr r ↦ not r ])
      ]
    ]
    through_or_not (x ∷ xs) a b = elim (through_or_not xs a b) [
      | inl h ↦ inl (inl h)
      | inr none ↦ elim (through_or_not xs a x) [
        | inl first ↦ elim (through_or_not xs x b) [
          | inl second ↦ inl (inr (first, second))
          | inr not ↦ inr (λ h. elim h [ inl k ↦ none k | inr k ↦ not k.1 ])
        ]
        | inr not ↦ inr (λ h. elim h [ inl k ↦ none k | inr k ↦ not k.0 ])
      ]
    ]

    module _ (xs : List V) (all : (a b : V) → R a b → Contains xs b) where
      through-from_reach : {a b : V} → Reach R a b → Through xs a b
      through-from_reach (here {a}) = through-beside xs a a (inl refl)
      through-from_reach (step {a} {b} {c} r rest) = through-trans xs a b c (all a b r) (through-beside xs a b (inr r)) (through-from_reach rest)

      -- where the list has all points that a step leads to
      pub reach_or_not : (a b : V) → IsDecided (Reach R a b)
      reach_or_not a b = elim (through_or_not xs a b) [
        | inl h ↦ inl (reach-from_through xs a b h)
        | inr not ↦ inr (λ r. not (through-from_reach r))
      ]
