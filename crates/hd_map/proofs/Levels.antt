-- Two points are joined at a level where a path none of whose points is above it leads from one to the other.
use Rattle.std.proofs.Common.{◌≡◌, Bool, true, false, List, [], ◌∷◌, ◌⊎◌, inl, inr, refl, sym, subst}
use Rattle.std.specs.Prelude.{All}
use Rattle.std.proofs.lemmas.List.Elements.{All-nil, All-cons, All-head, All-tail, All-weaker, All-contains}
pub use Rattle.hd_map.proofs.Items.{Contains-head, Contains-tail, Contains-cases, Contains-none}
use Rattle.hd_map.specs.Order.{IsNotAbove, IsStrictOrder}
use Rattle.hd_map.specs.Path.{Leads, IsTop}
pub use Rattle.hd_map.specs.Reach.{Reach, here, step}
use Rattle.hd_map.proofs.Order.{not_above-refl, not_above-trans, below-not_above, below-apart}

module _ {V : Type 0} (R : V → V → Type 0) where
  pub reach-trans : {a b c : V} → Reach R a b → Reach R b c → Reach R a c
  reach-trans here q = q
  reach-trans (step r p) q = step r (reach-trans p q)

  pub reach-sym : ((x y : V) → R x y → R y x) → {a b : V} → Reach R a b → Reach R b a
  reach-sym both here = here
  reach-sym both (step r p) = reach-trans (reach-sym both p) (step (both _ _ r) here)

  -- a test that holds at a and fails at b changes along some step
  pub reach-crosses : (f : V → Bool) → {a b : V} → Reach R a b → f a ≡ true → f b ≡ false → (x : V) × (y : V) × (f x ≡ true) × (f y ≡ false) × R x y
  reach-crosses f here h k = absurd cc
  reach-crosses f (step {a} {b} {c} r p) h k =
      elim (f b) as (λ v. f b ≡ v → (x : V) × (y : V) × (f x ≡ true) × (f y ≡ false) × R x y) [
        | true ↦ λ e. reach-crosses f p e k
        | false ↦ λ e. (a, b, h, e, r)
      ] refl

-- whether two are one
pub same_or_not : {V : Type 0} (below : V → V → Bool) → IsStrictOrder below → (a b : V) → (a ≡ b) ⊎ (a ≡ b → ⊥)
same_or_not {V} below laws a b = elim (below a b) as (λ v. below a b ≡ v → (a ≡ b) ⊎ (a ≡ b → ⊥)) [
  | true ↦ λ e. inr (below-apart below laws a b e)
  | false ↦ λ e. elim (below b a) as (λ v. below b a ≡ v → (a ≡ b) ⊎ (a ≡ b → ⊥)) [
    | true ↦ λ f. inr (λ same. below-apart below laws b a f (sym same))
    | false ↦ λ f. inl (laws.total a b e f)
  ] refl
] refl

-- none of the list is above t
abbrev pub NoneAbove : {V : Type 0} → (V → V → Bool) → V → List V → Type 0
NoneAbove below t xs = All (λ x. IsNotAbove below x t) xs

-- a step to a near one, neither above t
abbrev pub PointStep : {V : Type 0} → (V → V → Type 0) → (V → V → Bool) → V → V → V → Type 0
PointStep Near below t x y = Near x y × IsNotAbove below x t × IsNotAbove below y t

module _ {V : Type 0} (below : V → V → Bool) (laws : IsStrictOrder below) where
  pub none_above-higher : (t u : V) (xs : List V) → IsNotAbove below t u → NoneAbove below t xs → NoneAbove below u xs
  none_above-higher t u xs h none = All-weaker (λ x. IsNotAbove below x t) (λ x. IsNotAbove below x u) (λ x low. not_above-trans below laws x t u low h) xs none

  -- each list with an item has a highest one
  pub top_of : (a : V) (xs : List V) → (t : V) × IsTop below t (a ∷ xs)
  top_of a [] = (a, record { one_of = Contains-head a []; none_above = All-cons (λ x. IsNotAbove below x a) a [] (not_above-refl below laws a) (All-nil (λ x. IsNotAbove below x a)) })
  top_of a (x ∷ xs) =
      let rest = top_of x xs in
      elim (below rest.0 a) as (λ v. below rest.0 a ≡ v → (t : V) × IsTop below t (a ∷ x ∷ xs)) [
        | true ↦ λ e. (
          a,
          record {
            one_of = Contains-head a (x ∷ xs);
            none_above = All-cons (λ y. IsNotAbove below y a) a (x ∷ xs) (not_above-refl below laws a) (none_above-higher rest.0 a (x ∷ xs) (below-not_above below laws rest.0 a e) rest.1.none_above);
          },
        )
        | false ↦ λ e. (
          rest.0,
          record {
            one_of = Contains-tail a rest.0 (x ∷ xs) rest.1.one_of;
            none_above = All-cons (λ y. IsNotAbove below y rest.0) a (x ∷ xs) e rest.1.none_above;
          },
        )
      ] refl

  -- a top is not above what none of the list is above
  pub top-not_above : (s t : V) (xs : List V) → IsTop below s xs → NoneAbove below t xs → IsNotAbove below s t
  top-not_above s t xs top none = All-contains (λ x. IsNotAbove below x t) xs s none top.one_of

module _ {V : Type 0} (Near : V → V → Type 0) (below : V → V → Bool) (laws : IsStrictOrder below) where
  -- a path none of whose points is above t joins its ends at t
  pub reach-from_path : (t a b : V) (xs : List V) → Leads Near a xs b → NoneAbove below t (a ∷ xs) → Reach (PointStep Near below t) a b
  reach-from_path t a b [] l none = subst (λ x. Reach (PointStep Near below t) a x) l here
  reach-from_path t a b (x ∷ xs) l none =
      let P : V → Type 0 = λ y. IsNotAbove below y t in
      let rest = All-tail P a (x ∷ xs) none in
      step (l.0, All-head P a (x ∷ xs) none, All-head P x xs rest) (reach-from_path t x b xs l.1 rest)

  -- and the other way round
  pub path-from_reach : (t : V) {a b : V} → IsNotAbove below a t → Reach (PointStep Near below t) a b → (xs : List V) × Leads Near a xs b × NoneAbove below t (a ∷ xs)
  path-from_reach t low (here {a}) = let P : V → Type 0 = λ y. IsNotAbove below y t in ([], refl, All-cons P a [] low (All-nil P))
  path-from_reach t low (step {a} {b} {c} s r) =
      let P : V → Type 0 = λ y. IsNotAbove below y t in
      let rest = path-from_reach t s.2 r in
      (b ∷ rest.0, (s.0, rest.1), All-cons P a (b ∷ rest.0) low rest.2)

  -- a step at t is a step at what t is not above
  pub reach-higher : (t u : V) → IsNotAbove below t u → {x y : V} → Reach (PointStep Near below t) x y → Reach (PointStep Near below u) x y
  reach-higher t u h here = here
  reach-higher t u h (step s r) = step (s.0, not_above-trans below laws _ t u s.1 h, not_above-trans below laws _ t u s.2 h) (reach-higher t u h r)

  -- what is reached at t is not above t
  pub reach-end : (t : V) {a b : V} → IsNotAbove below a t → Reach (PointStep Near below t) a b → IsNotAbove below b t
  reach-end t h here = h
  reach-end t h (step s r) = reach-end t s.2 r

  pub points-both : ((x y : V) → Near x y → Near y x) → (t x y : V) → PointStep Near below t x y → PointStep Near below t y x
  points-both both t x y s = (both x y s.0, s.2, s.1)

  -- the least level at which a and b are joined
  pub record IsLevel (a b s : V) : Type 0 where
    pub from_low : IsNotAbove below a s
    pub joined : Reach (PointStep Near below s) a b
    pub least : (t : V) → IsNotAbove below a t → Reach (PointStep Near below t) a b → IsNotAbove below s t

  -- there is one at most
  pub level-unique : (a b s u : V) → IsLevel a b s → IsLevel a b u → s ≡ u
  level-unique a b s u h k = laws.total s u (k.least s h.from_low h.joined) (h.least u k.from_low k.joined)

  -- it is the same both ways
  pub level-sym : ((x y : V) → Near x y → Near y x) → (a b s : V) → IsLevel a b s → IsLevel b a s
  level-sym both a b s h = record {
    from_low = reach-end s h.from_low h.joined;
    joined = reach-sym (PointStep Near below s) (points-both both s) h.joined;
    least = λ t low r. h.least t (reach-end t low r) (reach-sym (PointStep Near below t) (points-both both t) r);
  }

  -- that of a and c is not above the higher of those by way of b
  pub level-ultrametric : (a b c s t u : V) → IsLevel a b s → IsLevel b c t → IsLevel a c u → IsNotAbove below u s ⊎ IsNotAbove below u t
  level-ultrametric a b c s t u h k m = elim (below s t) as (λ v. below s t ≡ v → IsNotAbove below u s ⊎ IsNotAbove below u t) [
    | true ↦ λ e. (let low : IsNotAbove below s t = below-not_above below laws s t e in
        inr (m.least t (not_above-trans below laws a s t h.from_low low) (reach-trans (PointStep Near below t) (reach-higher s t low h.joined) k.joined)))
    | false ↦ λ e. inl (m.least s h.from_low (reach-trans (PointStep Near below s) h.joined (reach-higher t s e k.joined)))
  ] refl
