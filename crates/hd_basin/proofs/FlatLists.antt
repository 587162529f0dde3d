-- Lists of lists put together: how they grow, what they have, and pairs of it.
use Rattle.std.proofs.Common.{◌≡◌, ◌≢◌, ◌<◌, ◌≤◌, ◌+◌, ℕ, zero, suc, List, [], ◌∷◌, ◌++◌, ◌-◌, length, length-append, get_or, take, map, Some, inl, inr, refl, sym, ◌∙◌, ap, subst, arith, slice_get}
use Rattle.std.specs.Prelude.{Contains, AllPairs}
use Rattle.std.specs.List.{flat_map}
use Rattle.std.proofs.Math.Seq.{get_or-append_right}
use Rattle.std.proofs.lemmas.Bool.{cases_lt}
use Rattle.std.proofs.lemmas.List.{take_more, map-append, append_assoc, flat_map_more, get_or_append_left, take_all}
use Rattle.std.proofs.lemmas.List.Kept.{AllPairs-cons}
use Rattle.std.proofs.lemmas.List.Elements.{Contains-append_left, Contains-append_right, Contains-append_cases, Contains-get_or}
use Rattle.std.proofs.lemmas.Option.{same_Some, slice_get_within, get_or_from_slice_get}
use Rattle.hd_map.proofs.Items.{Contains-head, Contains-tail, Contains-cases, Contains-none, Contains-map, AllPairs-first, AllPairs-tail}

module _ {X Y : Type 0} (f : X → Y) where
  -- one item more is written
  pub map-more : (ys zs new : List Y) (xs : List X) (k : ℕ) (d : X) (y : Y) → k < length xs → y ≡ f (get_or xs k d) → zs ≡ ys ++ map f (take k xs) → new ≡ zs ++ y ∷ []
      → new ≡ ys ++ map f (take (k + 1) xs)
  map-more ys zs new xs k d y inside item before after =
      let whole : map f (take (k + 1) xs) ≡ map f (take k xs) ++ f (get_or xs k d) ∷ [] = ap (map f) (take_more xs k d inside) ∙ map-append f (take k xs) (get_or xs k d ∷ []) in
      after ∙ ap (λ (vs : List Y). vs ++ y ∷ []) before ∙ ap (λ (v : Y). (ys ++ map f (take k xs)) ++ v ∷ []) item ∙ append_assoc ys (map f (take k xs)) (f (get_or xs k d) ∷ [])
      ∙ ap (λ (vs : List Y). ys ++ vs) (sym whole)

  -- all of them are written
  pub map-whole : (ys : List Y) (xs : List X) (k : ℕ) → length xs ≤ k → ys ++ map f (take k xs) ≡ ys ++ map f xs
  map-whole ys xs k past = ap (λ (zs : List X). ys ++ map f zs) (take_all k xs past)

-- what is mapped twice is mapped once
pub map-twice : {X Y Z : Type 0} (f : Y → Z) (g : X → Y) (xs : List X) → map (λ x. f (g x)) xs ≡ map f (map g xs)
map-twice f g [] = refl
map-twice f g (x ∷ xs) = ap (λ zs. f (g x) ∷ zs) (map-twice f g xs)

module _ {X Y : Type 0} (f : X → List Y) where
  -- one list more is written
  pub flat-more : (ys zs new : List Y) (xs : List X) (k : ℕ) (d : X) (piece : List Y) → k < length xs → piece ≡ f (get_or xs k d) → zs ≡ ys ++ flat_map f (take k xs)
      → new ≡ zs ++ piece → new ≡ ys ++ flat_map f (take (k + 1) xs)
  flat-more ys zs new xs k d piece inside item before after =
      after ∙ ap (λ (vs : List Y). vs ++ piece) before ∙ ap (λ (vs : List Y). (ys ++ flat_map f (take k xs)) ++ vs) item ∙ flat_map_more f ys (take k xs) (get_or xs k d)
      ∙ ap (λ (vs : List X). ys ++ flat_map f vs) (sym (take_more xs k d inside))

  pub flat-whole : (ys : List Y) (xs : List X) (k : ℕ) → length xs ≤ k → ys ++ flat_map f (take k xs) ≡ ys ++ flat_map f xs
  flat-whole ys xs k past = ap (λ (zs : List X). ys ++ flat_map f zs) (take_all k xs past)

  -- what the lists together have, one of them has
  pub Contains-flat : (xs : List X) (y : Y) → Contains (flat_map f xs) y → (k : ℕ) × (x : X) × (slice_get xs k ≡ Some x) × Contains (f x) y
  Contains-flat [] y h = absurd (Contains-none y h)
  Contains-flat (x ∷ xs) y h = elim (Contains-append_cases (f x) (flat_map f xs) y h) [
    | inl first ↦ (0, x, refl, first)
    | inr later ↦ (let r = Contains-flat xs y later in (suc r.0, r.1, r.2, r.3))
  ]

  pub flat-Contains : (xs : List X) (k : ℕ) (x : X) (y : Y) → slice_get xs k ≡ Some x → Contains (f x) y → Contains (flat_map f xs) y
  flat-Contains [] k x y at h = absurd cc
  flat-Contains (z ∷ xs) zero x y at h = Contains-append_left (f z) (flat_map f xs) y (subst (λ (w : X). Contains (f w) y) (sym (same_Some z x at)) h)
  flat-Contains (z ∷ xs) (suc k) x y at h = Contains-append_right (f z) (flat_map f xs) y (flat-Contains xs k x y at h)

module _ {X : Type 0} (R : X → X → Type 0) where
  -- the pairs of two lists, one after the other
  pub AllPairs-append : (xs ys : List X) → AllPairs R xs → AllPairs R ys → ((x y : X) → Contains xs x → Contains ys y → R x y) → AllPairs R (xs ++ ys)
  AllPairs-append xs ys one other between i j d less below =
      let total : length (xs ++ ys) ≡ length xs + length ys = length-append xs ys in
      elim (cases_lt j (length xs)) [
        | inl early ↦ (
            let early' : i < length xs = omega arith in
            subst (λ (v : X). R v (get_or (xs ++ ys) j d)) (sym (get_or_append_left xs ys d i early'))
            (subst (λ (v : X). R (get_or xs i d) v) (sym (get_or_append_left xs ys d j early)) (one i j d less early)))
        | inr late ↦ (
            let later : j - length xs < length ys = omega arith in
            let second = get_or-append_right xs ys j d late in
            subst (λ (v : X). R (get_or (xs ++ ys) i d) v) (sym second)
            (elim (cases_lt i (length xs)) [
              | inl early ↦ subst (λ (v : X). R v (get_or ys (j - length xs) d)) (sym (get_or_append_left xs ys d i early))
                  (between (get_or xs i d) (get_or ys (j - length xs) d) (Contains-get_or xs i d early) (Contains-get_or ys (j - length xs) d later))
              | inr late' ↦ subst (λ (v : X). R v (get_or ys (j - length xs) d)) (sym (get_or-append_right xs ys i d late')) (other (i - length xs) (j - length xs) d (omega arith) later)
            ]))
      ]

  -- the pairs of lists put together
  pub AllPairs-flat : {P : Type 0} (f : P → List X) (ps : List P) → ((k : ℕ) (p : P) → slice_get ps k ≡ Some p → AllPairs R (f p))
      → ((j k : ℕ) (p q : P) → j < k → slice_get ps j ≡ Some p → slice_get ps k ≡ Some q → (x y : X) → Contains (f p) x → Contains (f q) y → R x y) → AllPairs R (flat_map f ps)
  AllPairs-flat f [] each between = λ i j d less below. absurd (omega arith)
  AllPairs-flat f (p ∷ ps) each between = AllPairs-append (f p) (flat_map f ps) (each 0 p refl)
      (AllPairs-flat f ps (λ k q at. each (suc k) q at) (λ j k q r less at at' x y hx hy. between (suc j) (suc k) q r (omega arith) at at' x y hx hy))
      (λ x y hx hy. (let h = Contains-flat f ps y hy in between 0 (suc h.0) p h.1 (omega arith) refl h.2 x y hx h.3))

-- what a list contains stands at a place of it
pub Contains-at : {X : Type 0} → (xs : List X) (x : X) → Contains xs x → (k : ℕ) × (slice_get xs k ≡ Some x)
Contains-at {X} [] x h = absurd (Contains-none x h)
Contains-at {X} (y ∷ ys) x h = elim (Contains-cases y x ys h) [
  | inl e ↦ (0, ap (λ (z : X). Some z) (sym e))
  | inr later ↦ (let r = Contains-at ys x later in (suc r.0, r.1))
]

-- the pairs of a mapped list
pub AllPairs-map : {X Y : Type 0} (f : X → Y) (Q : X → X → Type 0) (R : Y → Y → Type 0) (xs : List X) → ((x y : X) → Contains xs x → Contains xs y → Q x y → R (f x) (f y))
    → AllPairs Q xs → AllPairs R (map f xs)
AllPairs-map f Q R [] h pairs = λ i j d less below. absurd (omega arith)
AllPairs-map f Q R (x ∷ xs) h pairs = AllPairs-cons R (f x) (map f xs)
    (λ k d inside. (
    let r = Contains-map f xs (get_or (map f xs) k d) (Contains-get_or (map f xs) k d inside) in
    subst (R (f x)) r.2 (h x r.0 (Contains-head x xs) (Contains-tail x r.0 xs r.1) (AllPairs-first Q x r.0 xs pairs r.1))))
    (AllPairs-map f Q R xs (λ y z at_y at_z q. h y z (Contains-tail x y xs at_y) (Contains-tail x z xs at_z) q) (AllPairs-tail Q x xs pairs))

-- two items of a list whose items are all so in pairs
pub pair-at : {X : Type 0} (R : X → X → Type 0) (xs : List X) → AllPairs R xs → (j k : ℕ) (x y : X) → j < k → slice_get xs j ≡ Some x → slice_get xs k ≡ Some y → R x y
pair-at R xs pairs j k x y less at there =
    subst (λ z. R z y) (get_or_from_slice_get xs j x x at) (subst (λ z. R (get_or xs j x) z) (get_or_from_slice_get xs k y x there) (pairs j k x less (slice_get_within xs k y there)))

-- in a list in which no two items have one value, items with one value are one
pub same-of_distinct : {X V : Type 0} (f : X → V) (xs : List X) (x y : X) → AllPairs (λ a b. f a ≢ f b) xs → Contains xs x → Contains xs y → f x ≡ f y → x ≡ y
same-of_distinct f xs x y distinct has other same =
    let i = Contains-at xs x has in
    let j = Contains-at xs y other in
    elim (cases_lt i.0 j.0) [
      | inl less ↦ absurd (pair-at (λ a b. f a ≢ f b) xs distinct i.0 j.0 x y less i.1 j.1 same)
      | inr not_less ↦ elim (cases_lt j.0 i.0) [
        | inl less ↦ absurd (pair-at (λ a b. f a ≢ f b) xs distinct j.0 i.0 y x less j.1 i.1 (sym same))
        | inr not_more ↦ (let one : i.0 ≡ j.0 = omega (arith, not_less, not_more) in same_Some x y (sym i.1 ∙ ap (slice_get xs) one ∙ j.1))
      ]
    ]
