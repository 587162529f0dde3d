-- The range of some heights, by the points that have them.
use Rattle.std.proofs.Common.{◌≡◌, ◌≤ℤ◌, ℤ, inl, inr, List, [], ◌∷◌, Option, Some, None, refl, sym, subst}
use Rattle.std.specs.Prelude.{All, Contains, MatchOption, fold}
use Rattle.std.specs.Int.{int_max, int_min}
use Rattle.std.specs.Option.{option_map}
use Rattle.std.proofs.lemmas.Int.{fold-int_max_bounds, fold-int_max_reached, fold-int_min_bounds, fold-int_min_reached}
use Rattle.hd_map.specs.declared.height_range.HeightRange.{HeightRange}
use Rattle.hd_map.specs.declared.types.Rank.{Rank}
use Rattle.hd_map.specs.HeightRange.{range_of}
use Rattle.hd_map.specs.Sums.{GreatestIs, LeastIs}
use Rattle.hd_map.proofs.Items.{Contains-cases, Contains-head, Contains-none, Contains-tail}

-- the bounds of some heights, where there are any
abbrev LeastOf : List ℤ → ℤ → Type 0
LeastOf hs a = Contains hs a × ((h : ℤ) → Contains hs h → a ≤ℤ h)

abbrev GreatestOf : List ℤ → ℤ → Type 0
GreatestOf hs a = Contains hs a × ((h : ℤ) → Contains hs h → h ≤ℤ a)

abbrev NoneOf : List ℤ → Type 0
NoneOf hs = (h : ℤ) → Contains hs h → ⊥

-- the ends of a range
abbrev pub least_end : Option HeightRange → Option ℤ
least_end range = option_map {T = HeightRange} {U = ℤ} (λ r. r.least) range

abbrev pub greatest_end : Option HeightRange → Option ℤ
greatest_end range = option_map {T = HeightRange} {U = ℤ} (λ r. r.greatest) range

bound_all : (P : ℤ → Type 0) (h : ℤ) (hs : List ℤ) → P h → All P hs → (x : ℤ) → Contains (h ∷ hs) x → P x
bound_all P h hs first rest x at = elim (Contains-cases h x hs at) [
  | inl e ↦ subst P (sym e) first
  | inr later ↦ subst P later.2 (rest later.0 x later.1)
]

-- the ends of the range are such bounds
least-of : (hs : List ℤ) → MatchOption (least_end (range_of hs)) (NoneOf hs) (LeastOf hs)
least-of [] = λ h at. Contains-none h at
least-of (h ∷ hs) =
    let low : ℤ = fold int_min h hs in
    let bounds = fold-int_min_bounds h hs low refl in (
      elim (fold-int_min_reached h hs low refl) [ inl e ↦ subst (Contains (h ∷ hs)) (sym e) (Contains-head h hs) | inr at ↦ Contains-tail h low hs at ],
      bound_all (λ x. low ≤ℤ x) h hs bounds.0 bounds.1,
    )

greatest-of : (hs : List ℤ) → MatchOption (greatest_end (range_of hs)) (NoneOf hs) (GreatestOf hs)
greatest-of [] = λ h at. Contains-none h at
greatest-of (h ∷ hs) =
    let high : ℤ = fold int_max h hs in
    let bounds = fold-int_max_bounds h hs high refl in (
      elim (fold-int_max_reached h hs high refl) [ inl e ↦ subst (Contains (h ∷ hs)) (sym e) (Contains-head h hs) | inr at ↦ Contains-tail h high hs at ],
      bound_all (λ x. x ≤ℤ high) h hs bounds.0 bounds.1,
    )

-- the heights are those of the members of a set
module _ (hs : List ℤ) (Member : Rank → Type 0) (each : (h : ℤ) → Contains hs h → (r : Rank) × Member r × (h ≡ r.height)) (all : (r : Rank) → Member r → Contains hs r.height) where
  pub least-range : LeastIs Member (least_end (range_of hs))
  least-range = lower (least_end (range_of hs)) (least-of hs)
    where
      lower : (o : Option ℤ) → MatchOption o (NoneOf hs) (LeastOf hs) → LeastIs Member o
      lower None none = λ r member. none r.height (all r member)
      lower (Some a) least = (let r = each a least.0 in record { of = r.0; member = r.1; height_is = r.2; bound = λ z member. least.1 z.height (all z member) })

  pub greatest-range : GreatestIs Member (greatest_end (range_of hs))
  greatest-range = upper (greatest_end (range_of hs)) (greatest-of hs)
    where
      upper : (o : Option ℤ) → MatchOption o (NoneOf hs) (GreatestOf hs) → GreatestIs Member o
      upper None none = λ r member. none r.height (all r member)
      upper (Some a) most = (let r = each a most.0 in record { of = r.0; member = r.1; height_is = r.2; bound = λ z member. most.1 z.height (all z member) })
