-- The values are determined.
use Rattle.std.proofs.Common.{◌≡◌, ◌<◌, ◌*◌, ◌∙◌, ℕ, ℤ, zero, suc, pos, List, [], ◌∷◌, length, get_or, slice_get, Option, Some, None, MatchOption, refl, sym, ap, subst, arith}
use Rattle.std.specs.List.{sum_by}
use Rattle.std.proofs.lemmas.Option.{slice_get-get_or, slice_get_within}
use Rattle.hd_num.specs.declared.frac.Frac.{Frac}
use Rattle.hd_num.specs.Frac.{IsFraction}
use Rattle.hd_map.specs.declared.types.Rank.{Rank}
use Rattle.hd_map.specs.declared.types.SideName.{SideName}
use Rattle.hd_map.specs.Map.{Map}
use Rattle.hd_map.specs.NearestSaddle.{IsNearestSaddle, NearestSaddleIs, local_height}
use Rattle.hd_map.specs.SideLaws.{below_by-order}
use Rattle.hd_map.proofs.Trees.{same_in_order}
use Rattle.hd_prune.specs.declared.step.Kept.{Kept}
use Rattle.hd_prune.specs.Kept.{pits_kept}
use Rattle.hd_feature.specs.Value.{AreSameValues}
use Rattle.hd_stats.specs.declared.name.HeightName.{HeightName}
use Rattle.hd_stats.specs.declared.name.HeightName.TheVariants.{Sa, Smr, Sp, Sv}
use Rattle.hd_stats.specs.Distribution.{AreCounts, IsShare, greater}
use Rattle.hd_stats.specs.Fill.{AreFills, AreSameFills, IsFill, IsVolume}
use Rattle.hd_stats.specs.Heights.{IsHeightParameter, over, under}
use Rattle.hd_stats.proofs.BinTotals.{counted_in-listed}

empty : (values : List ℤ) → values ≡ [] → 0 < length values → ⊥
empty values none some = (let e : length values ≡ 0 = ap length none in omega (arith, e, some))

pub AreCounts-unique : (values : List ℤ) (bins : ℕ) (a b : Option (List ℕ)) → MatchOption a (values ≡ []) (AreCounts values bins) → MatchOption b (values ≡ []) (AreCounts values bins) → a ≡ b
AreCounts-unique values bins (Some a) (Some b) x y = ap Some (counted_in-listed values bins a x ∙ sym (counted_in-listed values bins b y))
AreCounts-unique values bins (Some a) None x y = absurd (empty values y x.some)
AreCounts-unique values bins None (Some b) x y = absurd (empty values x y.some)
AreCounts-unique values bins None None x y = refl

-- what is said of fractions
abbrev pub FractionsAreDetermined : Type 0
FractionsAreDetermined = (n : ℤ) (d : ℕ) (a : ℤ) (b : ℕ) (c : ℤ) (e : ℕ) → 0 < d → IsFraction n d a b → IsFraction n d c e → (a ≡ c) × (b ≡ e)

module _ (fractions : FractionsAreDetermined) where
  square : (n : ℕ) → 0 < n → 0 < n * n
  square zero some = absurd (omega arith)
  square (suc n) some = omega arith

  under-some : (name : HeightName) (heights : List ℤ) → 0 < length heights → 0 < under name heights
  under-some Sp heights some = some
  under-some Sv heights some = some
  under-some Sa heights some = square (length heights) some
  under-some (Smr c) heights some = some

  pub IsHeightParameter-unique : (name : HeightName) (heights : List ℤ) (a b : Option Frac) → MatchOption a (heights ≡ []) (IsHeightParameter name heights)
      → MatchOption b (heights ≡ []) (IsHeightParameter name heights) → AreSameValues a b
  IsHeightParameter-unique name heights (Some f) (Some g) x y = fractions (over name heights) (under name heights) f.num f.den g.num g.den (under-some name heights x.some) x.fraction y.fraction
  IsHeightParameter-unique name heights (Some f) None x y = empty heights y x.some
  IsHeightParameter-unique name heights None (Some g) x y = empty heights x y.some
  IsHeightParameter-unique name heights None None x y = tt

  pub IsShare-unique : (values : List ℤ) (above : ℤ) (a b : Option Frac) → MatchOption a (values ≡ []) (IsShare values above) → MatchOption b (values ≡ []) (IsShare values above) → AreSameValues a b
  IsShare-unique values above (Some f) (Some g) x y = fractions (pos (greater above values)) (length values) f.num f.den g.num g.den x.some x.fraction y.fraction
  IsShare-unique values above (Some f) None x y = empty values y x.some
  IsShare-unique values above None (Some g) x y = empty values x y.some
  IsShare-unique values above None None x y = tt

  module _ (m : Map) (side : SideName) where
    volume-one : (p s : Rank) (f g : Frac) → IsVolume m side p s f → IsVolume m side p s g → AreSameValues (Some f) (Some g)
    volume-one p s f g x y =
        let a = x.are_filled in
        let b = y.are_filled in
        let same : x.points ≡ y.points = same_in_order (λ (p : Rank) (q : Rank). p.index < q.index) (λ p q h k. omega arith) x.points y.points a.in_order b.in_order
        (λ z. (λ h. (b.exactly z).1 ((a.exactly z).0 h), λ h. (a.exactly z).1 ((b.exactly z).0 h))) in
        fractions (pos (sum_by (λ z. local_height z s) y.points)) 1 f.num f.den g.num g.den (omega arith)
        (subst (λ (xs : List Rank). IsFraction (pos (sum_by (λ z. local_height z s) xs)) 1 f.num f.den) same x.fraction) y.fraction

    no-nearest : (last : List Rank) (p s : Rank) → NearestSaddleIs m side last p None → IsNearestSaddle m side last p s → ⊥
    no-nearest last p s none is = none is.reached.0 s is.reached.1 is.reached.2 is.reached.3

    nearest-one : (last : List Rank) (p s u : Rank) → IsNearestSaddle m side last p s → IsNearestSaddle m side last p u → s ≡ u
    nearest-one last p s u x y = (below_by-order side).total s u
        (y.least x.reached.0 s x.reached.1 x.reached.2 x.reached.3)
        (x.least y.reached.0 u y.reached.1 y.reached.2 y.reached.3)

    fill-one : (last : List Rank) (p : Rank) (a b : Option Frac) → IsFill m side last p a → IsFill m side last p b → AreSameValues a b
    fill-one last p (Some f) (Some g) x y = volume-one p y.0 f g (subst (λ s. IsVolume m side p s f) (nearest-one last p x.0 y.0 x.1 y.1) x.2) y.2
    fill-one last p (Some f) None x y = no-nearest last p x.0 y x.1
    fill-one last p None (Some g) x y = no-nearest last p y.0 x y.1
    fill-one last p None None x y = tt

    each-one : (a b : List (Option Frac)) → length a ≡ length b → ((i : ℕ) (x y : Option Frac) → slice_get a i ≡ Some x → slice_get b i ≡ Some y → AreSameValues x y) → AreSameFills a b
    each-one [] [] long each = tt
    each-one [] (b ∷ others) long each = absurd (omega (arith, long))
    each-one (a ∷ more) [] long each = absurd (omega (arith, long))
    each-one (a ∷ more) (b ∷ others) long each = (each 0 a b refl refl, each-one more others (omega (arith, long)) (λ i x y. each (suc i) x y))

    pub AreSameFills-unique : (kept : List Kept) (a b : List (Option Frac)) → AreFills m side kept a → AreFills m side kept b → AreSameFills a b
    AreSameFills-unique kept a b x y =
        let long = x.whole in
        let long' = y.whole in
        each-one a b (omega (arith, long, long')) (λ i v w is is'.
        let inside = slice_get_within a i v is in
        let k : Kept = get_or kept i (record { pit = record { height = pos 0; index = 0 }; nearest = None }) in
        let at : slice_get kept i ≡ Some k = slice_get-get_or kept i (record { pit = record { height = pos 0; index = 0 }; nearest = None }) (omega (arith, inside, long)) in
        fill-one (pits_kept kept) k.pit v w (x.each i k v at is) (y.each i k w at is'))
