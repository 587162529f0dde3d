-- Lists: what is mapped and filtered, and lists of the same elements.
use Rattle.std.proofs.Common.{◌≡◌, ◌<◌, ◌≤◌, ◌+◌, ℕ, zero, suc, Bool, true, false, List, [], ◌∷◌, length, get_or, map, cond, inl, inr, refl, sym, ap, ◌∙◌, subst, arith}
use Rattle.std.specs.Prelude.{All, AllPairs, Contains, filter}
use Rattle.std.specs.List.{range_with_len}
use Rattle.std.proofs.lemmas.List.{length-map, get_or-map}
use Rattle.hd_map.proofs.Levels.{Contains-cases, Contains-none, Contains-head, Contains-tail}

-- items of a filtered and of a mapped list
pub Contains-filter : {X : Type 0} (test : X → Bool) (xs : List X) (y : X) → Contains (filter test xs) y → Contains xs y × (test y ≡ true)
Contains-filter test [] y h = absurd (Contains-none y h)
Contains-filter {X} test (x ∷ xs) y h = elim (test x) as (λ v. test x ≡ v → Contains (cond v (x ∷ filter test xs) (filter test xs)) y → Contains (x ∷ xs) y × (test y ≡ true)) [
  | true ↦ λ e k. elim (Contains-cases x y (filter test xs) k) [
    | inl same ↦ subst (λ z. Contains (x ∷ xs) z × (test z ≡ true)) (sym same) (Contains-head x xs, e)
    | inr later ↦ (let r = Contains-filter test xs y later in (Contains-tail x y xs r.0, r.1))
  ]
  | false ↦ λ e k. (let r = Contains-filter test xs y k in (Contains-tail x y xs r.0, r.1))
] refl h

pub filter-Contains : {X : Type 0} (test : X → Bool) (xs : List X) (y : X) → Contains xs y → test y ≡ true → Contains (filter test xs) y
filter-Contains test [] y h e = absurd (Contains-none y h)
filter-Contains {X} test (x ∷ xs) y h e = elim (Contains-cases x y xs h) [
  | inl same ↦ (let here : test x ≡ true = subst (λ z. test z ≡ true) same e in
      subst (λ v. Contains (cond v (x ∷ filter test xs) (filter test xs)) y) (sym here) (subst (λ z. Contains (x ∷ filter test xs) z) (sym same) (Contains-head x (filter test xs))))
  | inr later ↦ (let r = filter-Contains test xs y later e in
      elim (test x) as (λ v. Contains (cond v (x ∷ filter test xs) (filter test xs)) y) [ true ↦ Contains-tail x y (filter test xs) r | false ↦ r ])
]

pub Contains-map : {X Y : Type 0} (f : X → Y) (xs : List X) (y : Y) → Contains (map f xs) y → (x : X) × Contains xs x × (f x ≡ y)
Contains-map f [] y h = absurd (Contains-none y h)
Contains-map f (x ∷ xs) y h = elim (Contains-cases (f x) y (map f xs) h) [
  | inl same ↦ (x, Contains-head x xs, sym same)
  | inr later ↦ (let r = Contains-map f xs y later in (r.0, Contains-tail x r.0 xs r.1, r.2))
]

pub map-Contains : {X Y : Type 0} (f : X → Y) (xs : List X) (x : X) → Contains xs x → Contains (map f xs) (f x)
map-Contains f [] x h = absurd (Contains-none x h)
map-Contains f (y ∷ xs) x h = elim (Contains-cases y x xs h) [
  | inl same ↦ subst (λ z. Contains (f y ∷ map f xs) (f z)) (sym same) (Contains-head (f y) (map f xs))
  | inr later ↦ Contains-tail (f y) (f x) (map f xs) (map-Contains f xs x later)
]

-- lists of one length with the same elements
pub same_lists : {X : Type 0} (xs ys : List X) → length xs ≡ length ys → ((i : ℕ) (d : X) → i < length xs → get_or xs i d ≡ get_or ys i d) → xs ≡ ys
same_lists [] [] long each = refl
same_lists [] (y ∷ ys) long each = absurd (omega arith)
same_lists (x ∷ xs) [] long each = absurd (omega arith)
same_lists (x ∷ xs) (y ∷ ys) long each =
    ap (λ z. z ∷ xs) (each 0 x (omega arith)) ∙ ap (λ zs. y ∷ zs) (same_lists xs ys (omega arith) (λ i d below. each (suc i) d (omega arith)))

-- two tests that agree on a range
pub filter_same : (p q : ℕ → Bool) (a n : ℕ) → ((k : ℕ) → k < a + n → p k ≡ q k) → filter p (range_with_len a n) ≡ filter q (range_with_len a n)
filter_same p q a zero same = refl
filter_same p q a (suc n) same =
    let rest = range_with_len (a + 1) n in
    ap (λ b. cond b (a ∷ filter p rest) (filter p rest)) (same a (omega arith)) ∙ ap (λ xs. cond (q a) (a ∷ xs) xs) (filter_same p q (a + 1) n (λ k below. same k (omega arith)))

-- what holds of a mapped list, and of the list
module _ {X : Type 0} {Y : Type 0} (f : X → Y) where
  pub All-unmap : (P : Y → Type 0) (xs : List X) → All P (map f xs) → All (λ x. P (f x)) xs
  All-unmap P xs h k d below =
      subst P (get_or-map f xs k d (f d) below) (h k (f d) (subst (λ n. k < n) (sym (length-map xs f)) below))

  pub All-map : (P : Y → Type 0) (xs : List X) → All (λ x. P (f x)) xs → All P (map f xs)
  All-map P [] h k d below = absurd (omega arith)
  All-map P (x ∷ xs) h k d below =
      let inside : k < length (x ∷ xs) = subst (λ n. k < n) (length-map (x ∷ xs) f) below in
      subst P (sym (get_or-map f (x ∷ xs) k x d inside)) (h k x inside)

  pub AllPairs-unmap : (R : Y → Y → Type 0) (xs : List X) → AllPairs R (map f xs) → AllPairs (λ a b. R (f a) (f b)) xs
  AllPairs-unmap R xs h i j d less below =
      let at_i = get_or-map f xs i d (f d) (omega arith) in
      let at_j = get_or-map f xs j d (f d) below in
      subst (λ a. R a (f (get_or xs j d))) at_i (subst (λ b. R (get_or (map f xs) i (f d)) b) at_j (h i j (f d) less (subst (λ n. j < n) (sym (length-map xs f)) below)))

  pub AllPairs-map : (R : Y → Y → Type 0) (xs : List X) → AllPairs (λ a b. R (f a) (f b)) xs → AllPairs R (map f xs)
  AllPairs-map R [] h i j d less below = absurd (omega arith)
  AllPairs-map R (x ∷ xs) h i j d less below =
      let inside : j < length (x ∷ xs) = subst (λ n. j < n) (length-map (x ∷ xs) f) below in
      let at_i = get_or-map f (x ∷ xs) i x d (omega arith) in
      let at_j = get_or-map f (x ∷ xs) j x d inside in
      subst (λ a. R a (get_or (map f (x ∷ xs)) j d)) (sym at_i) (subst (λ b. R (f (get_or (x ∷ xs) i x)) b) (sym at_j) (h i j x less inside))

-- lists that are made alike
pub map_same : {X Y : Type 0} (f g : X → Y) (xs : List X) → ((x : X) → f x ≡ g x) → map f xs ≡ map g xs
map_same f g [] same = refl
map_same f g (x ∷ xs) same = ap (λ y. y ∷ map f xs) (same x) ∙ ap (λ ys. g x ∷ ys) (map_same f g xs same)

-- the first of a list whose pairs stand in a relation, and the rest
module _ {X : Type 0} (R : X → X → Type 0) (x : X) (xs : List X) where
  pub AllPairs-first : (y : X) → AllPairs R (x ∷ xs) → Contains xs y → R x y
  AllPairs-first y h there = subst (R x) there.2 (h 0 (suc there.0) y (omega arith) (omega (arith, there.1)))

  pub AllPairs-rest : AllPairs R (x ∷ xs) → AllPairs R xs
  AllPairs-rest h i j d less below = h (suc i) (suc j) d (omega arith) (omega (arith, below))

-- items of rising numbers are at most as many as these numbers allow
module _ {X : Type 0} (f : X → ℕ) where
  at_least : (xs : List X) (d : X) → AllPairs (λ a b. f a < f b) xs → (i : ℕ) → i < length xs → i ≤ f (get_or xs i d)
  at_least xs d h zero below = omega arith
  at_least xs d h (suc i) below = let before = at_least xs d h i (omega arith) in let rises = h i (suc i) d (omega arith) below in omega (arith, before, rises)

  pub rising_few : (xs : List X) (n : ℕ) → AllPairs (λ a b. f a < f b) xs → All (λ x. f x < n) xs → length xs ≤ n
  rising_few [] n h inside = omega arith
  rising_few (x ∷ xs) n h inside =
      let last = at_least (x ∷ xs) x h (length xs) (omega arith) in
      let below = inside (length xs) x (omega arith) in
      omega (arith, last, below)
