-- Items of a list: at its head, in its tail, by pairs, and of a mapped list.
use Rattle.std.proofs.Common.{◌≡◌, ℕ, zero, suc, ◌<◌, List, [], ◌∷◌, length, get_or, map, ◌⊎◌, inl, inr, refl, sym, subst, arith}
use Rattle.std.specs.Prelude.{Contains, AllPairs}

module _ {X : Type 0} where
  -- the head of a list is in it
  pub Contains-head : (x : X) (xs : List X) → Contains (x ∷ xs) x
  Contains-head x xs = (0, omega arith, refl)

  -- what is in the tail is in the list
  pub Contains-tail : (x y : X) (xs : List X) → Contains xs y → Contains (x ∷ xs) y
  Contains-tail x y xs h = (suc h.0, (let inside = h.1 in omega arith), h.2)

  at_place : (x y : X) (xs : List X) (k : ℕ) → k < length (x ∷ xs) → get_or (x ∷ xs) k y ≡ y → (y ≡ x) ⊎ Contains xs y
  at_place x y xs zero inside e = inl (sym e)
  at_place x y xs (suc k) inside e = inr (k, omega arith, e)

  -- what is in a list is its head, or in its tail
  pub Contains-cases : (x y : X) (xs : List X) → Contains (x ∷ xs) y → (y ≡ x) ⊎ Contains xs y
  Contains-cases x y xs h = at_place x y xs h.0 h.1 h.2

  -- nothing is in the empty list
  pub Contains-none : (y : X) → Contains [] y → ⊥
  Contains-none y h = (let inside = h.1 in omega arith)

module _ {X : Type 0} (R : X → X → Type 0) where
  pub AllPairs-first : (x y : X) (xs : List X) → AllPairs R (x ∷ xs) → Contains xs y → R x y
  AllPairs-first x y xs h at = subst (λ z. R x z) at.2 (h 0 (suc at.0) y (omega arith) (let inside = at.1 in omega arith))

  pub AllPairs-tail : (x : X) (xs : List X) → AllPairs R (x ∷ xs) → AllPairs R xs
  AllPairs-tail x xs h = λ i j d less inside. h (suc i) (suc j) d (omega arith) (omega arith)

module _ {X Y : Type 0} (f : X → Y) where
  -- what a mapped list has is what an item stands for
  pub Contains-map : (xs : List X) (y : Y) → Contains (map f xs) y → (x : X) × Contains xs x × (f x ≡ y)
  Contains-map [] y h = absurd (Contains-none y h)
  Contains-map (x ∷ xs) y h = elim (Contains-cases (f x) y (map f xs) h) [
    | inl same ↦ (x, Contains-head x xs, sym same)
    | inr later ↦ (let r = Contains-map xs y later in (r.0, Contains-tail x r.0 xs r.1, r.2))
  ]

  pub map-Contains : (xs : List X) (x : X) → Contains xs x → Contains (map f xs) (f x)
  map-Contains [] x h = absurd (Contains-none x h)
  map-Contains (y ∷ xs) x h = elim (Contains-cases y x xs h) [
    | inl same ↦ subst (λ z. Contains (f y ∷ map f xs) (f z)) (sym same) (Contains-head (f y) (map f xs))
    | inr later ↦ Contains-tail (f y) (f x) (map f xs) (map-Contains xs x later)
  ]
