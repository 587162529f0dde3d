-- What is read in a list that was pushed to or set.
use Rattle.std.proofs.Common.{◌≡◌, ◌<◌, ◌+◌, ℕ, zero, suc, ◌⊎◌, inl, inr, List, [], ◌∷◌, ◌++◌, length, take, Some, slice_get, refl, sym, ◌∙◌, ap, arith}
use Rattle.std.proofs.lemmas.List.{append_assoc, take_more}
use Rattle.std.proofs.lemmas.Option.{get_or_from_slice_get, same_Some, slice_get_within}

module _ {X : Type 0} where
  -- what was there is there after a push
  pub get-push_left : (xs : List X) (x y : X) (i : ℕ) → slice_get xs i ≡ Some y → slice_get (xs ++ x ∷ []) i ≡ Some y
  get-push_left [] x y i e = absurd cc
  get-push_left (z ∷ xs) x y zero e = e
  get-push_left (z ∷ xs) x y (suc i) e = get-push_left xs x y i e

  -- and what was pushed is last
  pub get-push_last : (xs : List X) (x : X) → slice_get (xs ++ x ∷ []) (length xs) ≡ Some x
  get-push_last [] x = refl
  get-push_last (z ∷ xs) x = get-push_last xs x

  -- what is read after a push was there, or was pushed
  pub get-push_cases : (xs : List X) (x y : X) (i : ℕ) → slice_get (xs ++ x ∷ []) i ≡ Some y → (slice_get xs i ≡ Some y) ⊎ ((i ≡ length xs) × (y ≡ x))
  get-push_cases [] x y zero e = inr (refl, sym (same_Some x y e))
  get-push_cases [] x y (suc i) e = absurd cc
  get-push_cases (z ∷ xs) x y zero e = inl e
  get-push_cases (z ∷ xs) x y (suc i) e = elim (get-push_cases xs x y i e) [
    | inl was ↦ inl was
    | inr new ↦ inr (ap suc new.0, new.1)
  ]

  -- inside a list there is something to read
  pub read-inside : (xs : List X) (i : ℕ) → i < length xs → (x : X) × (slice_get xs i ≡ Some x)
  read-inside [] i inside = absurd (omega (arith, inside))
  read-inside (x ∷ xs) zero inside = (x, refl)
  read-inside (x ∷ xs) (suc i) inside = read-inside xs i (omega (arith, inside))

  -- one item more is written
  pub items-more : (ys zs new xs : List X) (k : ℕ) (x : X) → slice_get xs k ≡ Some x → zs ≡ ys ++ take k xs → new ≡ zs ++ x ∷ [] → new ≡ ys ++ take (k + 1) xs
  items-more ys zs new xs k x at before after =
      let more : take (k + 1) xs ≡ take k xs ++ x ∷ [] = take_more xs k x (slice_get_within xs k x at) ∙ ap (λ (y : X). take k xs ++ y ∷ []) (get_or_from_slice_get xs k x x at) in
      after ∙ ap (λ (vs : List X). vs ++ x ∷ []) before ∙ append_assoc ys (take k xs) (x ∷ []) ∙ ap (λ (vs : List X). ys ++ vs) (sym more)
