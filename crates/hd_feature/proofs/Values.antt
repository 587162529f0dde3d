-- The attributes of the significant regions, one region after another; and a notation has one value.
use Rattle.std.proofs.Common.{◌≡◌, ℕ, ℤ, ◌+◌, ◌<◌, List, [], ◌∷◌, ◌++◌, length, get_or, take, map, filter, Bool, true, false, cond, Option, Some, None, inl, inr, refl, sym, ap, ap₂, ◌∙◌, arith}
use Rattle.std.specs.Prelude.{◌⊎◌}
use Rattle.std.proofs.lemmas.List.{map-append}
use Rattle.std.proofs.lemmas.List.Elements.{filter_more}
use Rattle.hd_num.specs.declared.frac.Frac.{Frac}
use Rattle.hd_num.proofs.Fractions.{IsFraction-determined}
use Rattle.hd_feature.specs.declared.notation.Notation.{Notation}
use Rattle.hd_feature.specs.declared.notation.Statistic.{Statistic}
use Rattle.hd_feature.specs.declared.notation.Statistic.TheVariants as statistic
use Rattle.hd_feature.specs.declared.region.Region.{Region}
use Rattle.hd_feature.specs.Value.{AreSameValues, IsValue, attributes, over, under}

map_one : (f : Region → ℤ) (b : Bool) (x : Region) → map f (cond b (x ∷ []) []) ≡ cond b (f x ∷ []) []
map_one f true x = refl
map_one f false x = refl

-- the attributes with one region more
pub attributes-more : (p : Region → Bool) (f : Region → ℤ) (rs : List Region) (i : ℕ) (d : Region) (vs ws : List ℤ) → i < length rs
    → vs ≡ map f (filter p (take i rs)) → ws ≡ vs ++ cond (p (get_or rs i d)) (f (get_or rs i d) ∷ []) [] → ws ≡ map f (filter p (take (i + 1) rs))
attributes-more p f rs i d vs ws lt so_far e =
    e ∙ ap₂ (λ a b. a ++ b) so_far (sym (map_one f (p (get_or rs i d)) (get_or rs i d)))
    ∙ sym (map-append f (filter p (take i rs)) (cond (p (get_or rs i d)) (get_or rs i d ∷ []) [])) ∙ ap (map f) (sym (filter_more p rs i d lt))

-- a statistic divides by a number that is not 0
under-some : (s : Statistic) (values : List ℤ) (area : ℕ) → 0 < length values → 0 < area → 0 < under s values area
under-some statistic.Mean values area some known = some
under-some statistic.Max values area some known = omega arith
under-some statistic.Min values area some known = omega arith
under-some statistic.Sum values area some known = omega arith
under-some statistic.Density values area some known = known

no_value : (values : List ℤ) (area : ℕ) → 0 < length values → 0 < area → (values ≡ []) ⊎ (area ≡ 0) → ⊥
no_value values area some known (inl none) = let e : length values ≡ 0 = ap length none in omega arith
no_value values area some known (inr none) = omega arith

-- a notation has one value on some regions
pub IsValue-unique : (n : Notation) (features : List Region) (area : ℕ) (a b : Option Frac) → IsValue n features area a → IsValue n features area b → AreSameValues a b
IsValue-unique n features area (Some f) (Some g) x y =
    let values = attributes n features in
    IsFraction-determined (over n.statistic values) (under n.statistic values area) f.num f.den g.num g.den (under-some n.statistic values area x.values_some x.area_some) x.fraction y.fraction
IsValue-unique n features area (Some f) None x y = no_value (attributes n features) area x.values_some x.area_some y
IsValue-unique n features area None (Some g) x y = no_value (attributes n features) area y.values_some y.area_some x
IsValue-unique n features area None None x y = tt
