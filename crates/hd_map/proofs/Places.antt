-- Items of a list by place, after a push or a write, and of a filtered or mapped one.
use Rattle.std.proofs.Common.{◌≡◌, ◌≢◌, ℕ, zero, suc, ◌<◌, ◌≤◌, ◌⊎◌, inl, inr, Bool, true, false, List, [], ◌∷◌, ◌++◌, length, map, cond, Some, refl}
use Rattle.std.proofs.Common.{sym, ◌∙◌, ap, subst, arith, slice_get, set, get_or}
use Rattle.std.specs.Prelude.{Contains, AllPairs, filter}
use Rattle.std.proofs.lemmas.List.{get_or-map, length-map}
use Rattle.std.proofs.lemmas.Option.{same_Some, slice_get-get_or, slice_get_within, get_or_from_slice_get}
use Rattle.hd_map.proofs.Items.{Contains-cases, Contains-head, Contains-none, Contains-tail}

-- items and places after a push or a write
module _ {X : Type 0} where
  pub get-push_old : (xs : List X) (x y : X) (k : ℕ) → slice_get xs k ≡ Some y → slice_get (xs ++ x ∷ []) k ≡ Some y
  get-push_old [] x y k h = cc
  get-push_old (a ∷ xs) x y zero h = h
  get-push_old (a ∷ xs) x y (suc k) h = get-push_old xs x y k h

  pub get-push_new : (xs : List X) (x : X) → slice_get (xs ++ x ∷ []) (length xs) ≡ Some x
  get-push_new [] x = refl
  get-push_new (a ∷ xs) x = get-push_new xs x

  pub get-push_cases : (xs : List X) (x y : X) (k : ℕ) → slice_get (xs ++ x ∷ []) k ≡ Some y → (slice_get xs k ≡ Some y) ⊎ ((k ≡ length xs) × (x ≡ y))
  get-push_cases [] x y zero h = inr (refl, cc)
  get-push_cases [] x y (suc k) h = cc
  get-push_cases (a ∷ xs) x y zero h = inl h
  get-push_cases (a ∷ xs) x y (suc k) h = elim (get-push_cases xs x y k h) [ inl p ↦ inl p | inr p ↦ inr (ap suc p.0, p.1) ]

  pub get-set_same : (xs : List X) (i : ℕ) (v w : X) → slice_get xs i ≡ Some w → slice_get (set xs i v) i ≡ Some v
  get-set_same [] i v w h = cc
  get-set_same (a ∷ xs) zero v w h = refl
  get-set_same (a ∷ xs) (suc i) v w h = get-set_same xs i v w h

  pub get-set_other : (xs : List X) (i k : ℕ) (v : X) → i ≢ k → slice_get (set xs i v) k ≡ slice_get xs k
  get-set_other [] i k v h = refl
  get-set_other (a ∷ xs) zero zero v h = absurd (h refl)
  get-set_other (a ∷ xs) zero (suc k) v h = refl
  get-set_other (a ∷ xs) (suc i) zero v h = refl
  get-set_other (a ∷ xs) (suc i) (suc k) v h = get-set_other xs i k v (λ e. h (ap suc e))

  pub get-set_cases : (xs : List X) (i k : ℕ) (v y : X) → slice_get (set xs i v) k ≡ Some y → ((i ≡ k) × (v ≡ y)) ⊎ ((i ≢ k) × (slice_get xs k ≡ Some y))
  get-set_cases [] i k v y h = absurd (cc h)
  get-set_cases (a ∷ xs) zero zero v y h = inl (refl, same_Some v y h)
  get-set_cases (a ∷ xs) zero (suc k) v y h = inr (λ e. omega (arith, e), h)
  get-set_cases (a ∷ xs) (suc i) zero v y h = inr (λ e. omega (arith, e), h)
  get-set_cases (a ∷ xs) (suc i) (suc k) v y h = elim (get-set_cases xs i k v y h) [ inl p ↦ inl (ap suc p.0, p.1) | inr p ↦ inr (λ e. p.0 (omega (arith, e)), p.1) ]

  -- what is read within the list is there
  pub get-from_read : (xs : List X) (i : ℕ) (d x : X) → i < length xs → get_or xs i d ≡ x → slice_get xs i ≡ Some x
  get-from_read xs i d x h e = slice_get-get_or xs i d h ∙ ap Some e

-- of two numbers the first is less, or they are one, or it is more
pub less_same_more : (m n : ℕ) → (m < n) ⊎ ((m ≡ n) ⊎ (n < m))
less_same_more zero zero = inr (inl refl)
less_same_more zero (suc n) = inl (omega arith)
less_same_more (suc m) zero = inr (inr (omega arith))
less_same_more (suc m) (suc n) = elim (less_same_more m n) [
  | inl h ↦ inl (omega arith)
  | inr r ↦ elim r [ inl e ↦ inr (inl (ap suc e)) | inr h ↦ inr (inr (omega arith)) ]
]

module _ {X : Type 0} where
  -- each place within the list has an item
  pub item_at : (xs : List X) (i : ℕ) → i < length xs → (x : X) × (slice_get xs i ≡ Some x)
  item_at [] i h = absurd (omega arith)
  item_at (x ∷ xs) zero h = (x, refl)
  item_at (x ∷ xs) (suc i) h = item_at xs i (omega arith)

  -- an item of the list stands at some place
  pub place_of : (xs : List X) (x : X) → Contains xs x → (k : ℕ) × (slice_get xs k ≡ Some x)
  place_of xs x h = (h.0, slice_get-get_or xs h.0 x h.1 ∙ ap Some h.2)

  -- what stands at a place is in the list
  pub at_place : (xs : List X) (k : ℕ) (x : X) → slice_get xs k ≡ Some x → Contains xs x
  at_place xs k x at = (k, slice_get_within xs k x at, get_or_from_slice_get xs k x x at)

  -- where any two items differ by a key, a key stands at one place
  pub one_place : {K : Type 0} (key : X → K) (xs : List X) → AllPairs (λ x y. key x ≢ key y) xs → (i j : ℕ) (x y : X) → slice_get xs i ≡ Some x → slice_get xs j ≡ Some y → key x ≡ key y → i ≡ j
  one_place key xs apart i j x y atx aty e = elim (less_same_more i j) [
    | inl less ↦ absurd (differ i j x y less atx aty e)
    | inr o ↦ elim o [ inl same ↦ same | inr more ↦ absurd (differ j i y x more aty atx (sym e)) ]
  ]
    where
      differ : (k l : ℕ) (u v : X) → k < l → slice_get xs k ≡ Some u → slice_get xs l ≡ Some v → key u ≢ key v
      differ k l u v less atu atv f =
          let a : get_or xs k u ≡ u = get_or_from_slice_get xs k u u atu in
          let b : get_or xs l u ≡ v = get_or_from_slice_get xs l v u atv in
          apart k l u less (slice_get_within xs l v atv) (ap key a ∙ f ∙ sym (ap key b))

  -- and the other way round
  pub pairs_from_places : {K : Type 0} (key : X → K) (xs : List X) → ((i j : ℕ) (x y : X) → slice_get xs i ≡ Some x → slice_get xs j ≡ Some y → key x ≡ key y → i ≡ j)
      → AllPairs (λ x y. key x ≢ key y) xs
  pairs_from_places key xs once i j d less inside e =
      let same : i ≡ j = once i j (get_or xs i d) (get_or xs j d) (slice_get-get_or xs i d (omega arith)) (slice_get-get_or xs j d inside) e in
      omega arith

module _ {X : Type 0} (test : X → Bool) where
  -- a filtered list has the items that pass the test
  pub Contains-filter : (xs : List X) (y : X) → Contains (filter test xs) y → Contains xs y × (test y ≡ true)
  Contains-filter [] y h = absurd (Contains-none y h)
  Contains-filter (x ∷ xs) y h = elim (test x) as (λ v. test x ≡ v → Contains (cond v (x ∷ filter test xs) (filter test xs)) y → Contains (x ∷ xs) y × (test y ≡ true)) [
    | true ↦ λ e k. elim (Contains-cases x y (filter test xs) k) [
      | inl same ↦ subst (λ z. Contains (x ∷ xs) z × (test z ≡ true)) (sym same) (Contains-head x xs, e)
      | inr later ↦ (let r = Contains-filter xs y later in (Contains-tail x y xs r.0, r.1))
    ]
    | false ↦ λ e k. (let r = Contains-filter xs y k in (Contains-tail x y xs r.0, r.1))
  ] refl h

  pub filter-Contains : (xs : List X) (y : X) → Contains xs y → test y ≡ true → Contains (filter test xs) y
  filter-Contains [] y h e = absurd (Contains-none y h)
  filter-Contains (x ∷ xs) y h e = elim (Contains-cases x y xs h) [
    | inl same ↦ (let here : test x ≡ true = subst (λ z. test z ≡ true) same e in
        subst (λ v. Contains (cond v (x ∷ filter test xs) (filter test xs)) y) (sym here) (subst (λ z. Contains (x ∷ filter test xs) z) (sym same) (Contains-head x (filter test xs))))
    | inr later ↦ (let r = filter-Contains xs y later e in
        elim (test x) as (λ v. Contains (cond v (x ∷ filter test xs) (filter test xs)) y) [ true ↦ Contains-tail x y (filter test xs) r | false ↦ r ])
  ]

  -- and no more of them
  pub length-filter_le : (xs : List X) → length (filter test xs) ≤ length xs
  length-filter_le [] = omega arith
  length-filter_le (x ∷ xs) = (let less = length-filter_le xs in elim (test x) as (λ v. length (cond v (x ∷ filter test xs) (filter test xs)) ≤ length (x ∷ xs))
      [ true ↦ omega (arith, less) | false ↦ omega (arith, less) ])

-- numbers of items that differ are different
pub pairs-of_map : {X : Type 0} (number : X → ℕ) (xs : List X) → AllPairs (λ x y. number x ≢ number y) xs → AllPairs (λ a b. a ≢ b) (map number xs)
pairs-of_map number [] apart i j d less inside e = absurd (omega (arith, inside))
pairs-of_map number (x ∷ xs) apart i j d less inside e =
    let all = x ∷ xs in
    let len : length (map number all) ≡ length all = length-map all number in
    let read = λ (k : ℕ) (h : k < length all). get_or-map number all k x d h in
    apart i j x less (omega (arith, inside, len)) (sym (read i (omega (arith, less, inside, len))) ∙ e ∙ read j (omega (arith, inside, len)))

-- and the other way round
pub pairs-from_map : {X : Type 0} (number : X → ℕ) (xs : List X) → AllPairs (λ a b. a ≢ b) (map number xs) → AllPairs (λ x y. number x ≢ number y) xs
pairs-from_map number xs apart i j d less inside e =
    let len : length (map number xs) ≡ length xs = length-map xs number in
    apart i j (number d) less (omega (arith, inside, len)) (get_or-map number xs i d (number d) (omega (arith, less, inside)) ∙ e ∙ sym (get_or-map number xs j d (number d) inside))
