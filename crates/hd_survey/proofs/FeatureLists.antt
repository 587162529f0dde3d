-- The list of the regions after pruning, from the tallies of what the kept pits own.
use Rattle.std.proofs.Common.{◌≡◌, ◌<◌, ◌≤◌, ◌∙◌, ℕ, ℤ, List, length, map, get_or, Option, Some, None, refl, sym, ap, subst, arith}
use Rattle.std.specs.Prelude.{All, pos, ◌-ℤ◌, unsigned_abs}
use Rattle.std.specs.Option.{ForSome}
use Rattle.std.proofs.lemmas.Int.{ints}
use Rattle.std.proofs.lemmas.List.{get_or-map, length-map}
use Rattle.hd_feature.specs.declared.region.Region.{Region}
use Rattle.hd_feature.specs.HeightsAlone.{height_alone}
use Rattle.hd_map.specs.declared.height_range.HeightRange.{HeightRange}
use Rattle.hd_map.specs.declared.types.Rank.{Rank}
use Rattle.hd_map.specs.declared.types.SideName.{SideName}
use Rattle.hd_map.specs.declared.types.SideName.TheVariants.{Dales, Hills}
use Rattle.hd_map.specs.Map.{Map}
use Rattle.hd_map.specs.Presence.{present_heights}
use Rattle.hd_map.specs.HeightRange.{range_of}
use Rattle.hd_prune.specs.declared.step.Kept.{Kept}
use Rattle.hd_regions.specs.declared.tally.Tally.{Tally}
use Rattle.hd_survey.specs.Features.{AreFeaturesWith, feature_of, feature_with, lpvh}
use Rattle.hd_survey.specs.Heights.{HasHeights, IsHeight, IsHeightRange, farthest_apart}
use Rattle.hd_survey.specs.Owned.{owned_points}
use Rattle.hd_survey.specs.Tallies.{no_tally, tally_of}
use Rattle.hd_survey.proofs.Lists.{same_lists}

difference_small : (a b : ℤ) → IsHeight a → IsHeight b → unsigned_abs (a -ℤ b) ≤ farthest_apart
difference_small a b x y = let al = x.least in let ag = x.greatest in let bl = y.least in let bg = y.greatest in omega (arith, ints)

-- local heights are small
lpvh_small : (side : SideName) (range : Option HeightRange) (p : Rank) (nearest : Option Rank) → IsHeight p.height → ForSome nearest (λ s. IsHeight s.height) → ForSome range IsHeightRange
    → unsigned_abs (lpvh side range p nearest) ≤ farthest_apart
lpvh_small side range p (Some s) pit saddle ends = difference_small s.height p.height (saddle s refl) pit
lpvh_small side None p None pit saddle ends = omega arith
lpvh_small Dales (Some range) p None pit saddle ends = difference_small range.greatest p.height (ends range refl).greatest pit
lpvh_small Hills (Some range) p None pit saddle ends = difference_small p.height range.least pit (ends range refl).least

pub no_kept : Kept
no_kept = record { pit = record { height = pos 0; index = 0 }; nearest = None }

-- the regions of kept pits have small local heights
pub features_heights : (side : SideName) (range : Option HeightRange) (kept : List Kept) (tallies : List Tally) (list : List Region) → All HasHeights kept → ForSome range IsHeightRange
    → AreFeaturesWith side range kept tallies (length kept) list → All (λ r. unsigned_abs r.lpvh ≤ farthest_apart) list
features_heights side range kept tallies list heights ends are i d below =
    let inside : i < length kept = subst (λ n. i < n) are.whole below in
    let one : Kept = get_or kept i no_kept in
    subst (λ (r : Region). unsigned_abs r.lpvh ≤ farthest_apart) (sym (are.each i d no_kept no_tally inside))
    (lpvh_small side range one.pit one.nearest (heights i no_kept inside).pit (heights i no_kept inside).nearest ends)

-- and no more points than are tallied
pub features_points : (side : SideName) (range : Option HeightRange) (kept : List Kept) (tallies : List Tally) (list : List Region) (n : ℕ) → length tallies ≡ length kept
    → All (λ t. t.points ≤ n) tallies
    → AreFeaturesWith side range kept tallies (length kept) list → n ≤ 4194304 → All (λ r. r.points ≤ 4194304) list
features_points side range kept tallies list n long few are most i d below =
    let inside : i < length kept = subst (λ n. i < n) are.whole below in
    let e : (get_or list i d).points ≡ (get_or tallies i no_tally).points = ap (λ (r : Region). r.points) (are.each i d no_kept no_tally inside) in
    let h = few i no_tally (subst (λ n. i < n) (sym long) inside) in
    omega (arith, e, h, most)

-- with tallies of no points they are their pits and local heights alone
pub heights_are : (m : Map) (side : SideName) (owner : Rank → Rank) (roots : List (Option ℕ)) (kept : List Kept) (tallies : List Tally) (list : List Region)
    → ((i : ℕ) → i < length kept → get_or tallies i no_tally ≡ no_tally)
    → AreFeaturesWith side (range_of (present_heights m)) kept tallies (length kept) list → list ≡ map height_alone (map (feature_of m side owner roots) kept)
heights_are m side owner roots kept tallies list none are =
    let all : List Region = map (feature_of m side owner roots) kept in
    let long : length all ≡ length kept = length-map kept (feature_of m side owner roots) in
    same_lists list (map height_alone all) (are.whole ∙ sym long ∙ sym (length-map all height_alone)) (λ i d below.
    let inside : i < length kept = subst (λ n. i < n) are.whole below in
    let one : Kept = get_or kept i no_kept in
    are.each i d no_kept no_tally inside
    ∙ ap (feature_with side (range_of (present_heights m)) one) (none i inside)
    ∙ sym (ap height_alone (get_or-map (feature_of m side owner roots) kept i no_kept d inside))
    ∙ sym (get_or-map height_alone all i d d (subst (λ n. i < n) (sym long) inside)))

-- the list is that of the regions after pruning, where the tallies are those of what the kept pits own
pub features_are : (m : Map) (side : SideName) (owner : Rank → Rank) (roots : List (Option ℕ)) (kept : List Kept) (tallies : List Tally) (list : List Region)
    → ((i : ℕ) (d : Tally) (k : Kept) → i < length kept → get_or tallies i d ≡ tally_of m (owned_points m owner roots (get_or kept i k).pit.index))
    → AreFeaturesWith side (range_of (present_heights m)) kept tallies (length kept) list → list ≡ map (feature_of m side owner roots) kept
features_are m side owner roots kept tallies list tallied made =
    same_lists list (map (feature_of m side owner roots) kept) (made.whole ∙ sym (length-map kept (feature_of m side owner roots))) (λ i d below.
    let inside : i < length kept = subst (λ n. i < n) made.whole below in
    let one : Kept = get_or kept i no_kept in
    made.each i d no_kept no_tally inside
    ∙ ap (feature_with side (range_of (present_heights m)) one) (tallied i no_tally no_kept inside)
    ∙ sym (get_or-map (feature_of m side owner roots) kept i no_kept d inside))
