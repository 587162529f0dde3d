-- The attributes of regions by their pits and local heights alone.
use Rattle.std.proofs.Common.{◌≡◌, ◌+◌, ◌&&◌, List, [], ◌∷◌, map, filter, Bool, true, false, not, cond, nat_lt, true≢false, refl, sym, ap, ap₂, ◌∙◌}
use Rattle.std.specs.List.{count_by}
use Rattle.std.proofs.lemmas.List.Sums.{sum_by-cons}
use Rattle.hd_feature.specs.declared.notation.Attribute.{Attribute}
use Rattle.hd_feature.specs.declared.notation.Attribute.TheVariants.{Lpvh, Count, AreaE}
use Rattle.hd_feature.specs.declared.notation.Kind.{Kind}
use Rattle.hd_feature.specs.declared.notation.Notation.{Notation}
use Rattle.hd_feature.specs.declared.notation.Significance.{Significance}
use Rattle.hd_feature.specs.declared.notation.Significance.TheVariants as significance
use Rattle.hd_feature.specs.declared.region.Region.{Region}
use Rattle.hd_feature.specs.HeightsAlone.{asks_for_edges, asks_for_points, heights_serve, height_alone}
use Rattle.hd_feature.specs.Value.{attribute, attributes, comes_before, is_significant}

-- what is made of the items that pass, where the items and the tests are led over
filter_over : {X Y Z : Type 0} (g : X → Y) (f : Y → Z) (h : X → Z) (p : Y → Bool) (q : X → Bool) → ((x : X) → p (g x) ≡ q x) → ((x : X) → f (g x) ≡ h x)
    → (xs : List X) → map f (filter p (map g xs)) ≡ map h (filter q xs)
filter_over g f h p q passes gives [] = refl
filter_over g f h p q passes gives (x ∷ xs) =
    ap (λ b. map f (cond b (g x ∷ filter p (map g xs)) (filter p (map g xs)))) (passes x)
    ∙ step (q x) (filter_over g f h p q passes gives xs)
  where
    step : (b : Bool) → map f (filter p (map g xs)) ≡ map h (filter q xs) → map f (cond b (g x ∷ filter p (map g xs)) (filter p (map g xs))) ≡ map h (cond b (x ∷ filter q xs) (filter q xs))
    step true rest = ap₂ (λ z zs. z ∷ zs) (gives x) rest
    step false rest = rest

-- as many regions come before one
count_alone : (r : Region) (rs : List Region) → count_by (λ a. comes_before a (height_alone r)) (map height_alone rs) ≡ count_by (λ a. comes_before a r) rs
count_alone r [] = refl
count_alone r (x ∷ xs) = sum_by-cons _ (height_alone x) (map height_alone xs) ∙ ap (λ n. cond (comes_before x r) 1 0 + n) (count_alone r xs) ∙ sym (sum_by-cons _ x xs)

-- the same regions are significant
significant_alone : (k : Kind) (s : Significance) (rs : List Region) → asks_for_edges s ≡ false → (r : Region)
    → is_significant k s (map height_alone rs) (height_alone r) ≡ is_significant k s rs r
significant_alone k significance.All rs serves r = refl
significant_alone k (significance.Top n) rs serves r = ap (λ c. nat_lt c n) (count_alone r rs)
significant_alone k (significance.Bot n) rs serves r = ap (λ c. nat_lt c n) (count_alone r rs)
significant_alone k (significance.Closed c) rs serves r = absurd (true≢false serves)
significant_alone k (significance.Open c) rs serves r = absurd (true≢false serves)

-- the same is taken of them
attribute_alone : (a : Attribute) → asks_for_points a ≡ false → (r : Region) → attribute a (height_alone r) ≡ attribute a r
attribute_alone Lpvh serves r = refl
attribute_alone Count serves r = refl
attribute_alone AreaE serves r = absurd (true≢false serves)

both_fail : (a b : Bool) → (not a && not b) ≡ true → (a ≡ false) × (b ≡ false)
both_fail false false h = (refl, refl)
both_fail false true h = absurd (true≢false (sym h))
both_fail true b h = absurd (true≢false (sym h))

pub attributes_alone : (n : Notation) (rs : List Region) → heights_serve n ≡ true → attributes n (map height_alone rs) ≡ attributes n rs
attributes_alone n rs serves =
    let fail = both_fail (asks_for_edges n.significance) (asks_for_points n.attribute) serves in
    filter_over height_alone (attribute n.attribute) (attribute n.attribute) (is_significant n.kind n.significance (map height_alone rs)) (is_significant n.kind n.significance rs)
    (significant_alone n.kind n.significance rs fail.0) (attribute_alone n.attribute fail.1) rs
