-- What is known of the list of the regions after pruning.
use Rattle.std.proofs.Common.{◌≡◌, ◌⊎◌, ◌<◌, ◌≤◌, ◌*◌, ◌∙◌, ℕ, true, inl, inr, List, length, map, replicate, get_or, Option, Some, refl, sym, ap, subst, le_trans, mul-le-mul_right, arith}
use Rattle.std.specs.Prelude.{All, unsigned_abs}
use Rattle.std.specs.Option.{ForSome}
use Rattle.std.proofs.lemmas.List.{get_or-replicate, length-replicate}
use Rattle.hd_feature.specs.declared.notation.Attribute.TheVariants.{Lpvh}
use Rattle.hd_feature.specs.declared.notation.Notation.{Notation}
use Rattle.hd_feature.specs.declared.notation.Statistic.TheVariants.{Mean}
use Rattle.hd_feature.specs.declared.region.Region.{Region}
use Rattle.hd_feature.specs.HeightsAlone.{height_alone, heights_serve}
use Rattle.hd_feature.specs.Value.{IsValue}
use Rattle.hd_map.specs.declared.height_range.HeightRange.{HeightRange}
use Rattle.hd_map.specs.declared.types.SideName.{SideName}
use Rattle.hd_map.specs.Map.{IsMap, Map, cell_count}
use Rattle.hd_map.specs.Presence.{present_heights}
use Rattle.hd_map.specs.HeightRange.{range_of}
use Rattle.hd_map.specs.Region.{AreRegions}
use Rattle.hd_num.specs.declared.frac.Frac.{Frac}
use Rattle.hd_prune.specs.declared.step.Kept.{Kept}
use Rattle.hd_prune.specs.declared.step.Owned.{Owned}
use Rattle.hd_prune.specs.declared.step.Step.{Step}
use Rattle.hd_prune.specs.Answer.{IsPruned}
use Rattle.hd_prune.specs.Pruned.{leavings_of}
use Rattle.hd_prune.specs.Staying.{AreKeptAlone}
use Rattle.hd_regions.specs.declared.tally.Tally.{Tally}
use Rattle.hd_survey.specs.Features.{AreFeaturesWith, AreHeightsAlone, AreHeightsWith, feature_of, feature_with}
use Rattle.hd_survey.specs.Findings.{AreKeptFeatures}
use Rattle.hd_survey.specs.Heights.{HasHeights, farthest_apart}
use Rattle.hd_survey.specs.Owned.{AreOwnedTallies, owned_points}
use Rattle.hd_survey.specs.Sums.{IsSmall}
use Rattle.hd_survey.specs.Tallies.{AreRegionTallies, no_tally, tally_of}
use Rattle.hd_survey.specs.Values.{AreServing, IsNotationValue}
use Rattle.hd_survey.proofs.ByRoots.{features_by_roots}
use Rattle.hd_survey.proofs.FeatureLists.{features_are, features_heights, features_points, heights_are, no_kept}
use Rattle.hd_survey.proofs.FeaturePoints.{kept_heights, kept_inside, kept_ordered}
use Rattle.hd_survey.proofs.Lists.{rising_few}
use Rattle.hd_survey.proofs.Owning.{owned_whole, pruned_inside}
use Rattle.hd_survey.proofs.OwnedTallies.{owned_few}
use Rattle.hd_prune.proofs.Spans.{range_heights}

-- what is known of the list of regions by their local heights alone
pub record HeightOutcome (m : Map) (side : SideName) (thousandths : ℕ) (list : List Region) : Type 0 where
  pub are : AreHeightsAlone m side thousandths list
  pub points : All (λ r. r.points ≤ 4194304) list
  pub heights : All (λ r. unsigned_abs r.lpvh ≤ farthest_apart) list
  pub few : length list ≤ 4194304

module _ (m : Map) (side : SideName) (thousandths : ℕ) (whole : IsMap m) (steps : List Step) (kept : List Kept) (owners : List Owned) (pruned : IsPruned m side thousandths steps kept owners) where
  pub pruned_heights : All HasHeights kept
  pruned_heights = kept_heights m side thousandths whole (leavings_of steps) pruned.last pruned.owner pruned.pruning kept pruned.are_kept

  pub outcome : (tallies all : List Tally) (name : SideName) (range : Option HeightRange) (list : List Region) → AreRegionTallies m side tallies → AreOwnedTallies kept owners tallies all
      → name ≡ side → range ≡ range_of (present_heights m) → AreFeaturesWith name range kept all (length kept) list → AreKeptFeatures m side thousandths list
  outcome tallies all name range list regions owned same_side same_range listed =
      let made : AreFeaturesWith side (range_of (present_heights m)) kept all (length kept) list =
      subst (λ r. AreFeaturesWith side r kept all (length kept) list) same_range (subst (λ s. AreFeaturesWith s range kept all (length kept) list) same_side listed) in
      let tallied : (i : ℕ) (d : Tally) (k : Kept) → i < length kept → get_or all i d ≡ tally_of m (owned_points m pruned.owner regions.roots (get_or kept i k).pit.index) = λ i d k below.
      owned.each i d k below ∙ owned_whole m side thousandths whole steps kept owners pruned tallies regions (get_or kept i k).pit.index in
      let most = (pruned_inside m side thousandths whole steps kept owners pruned (cell_count m.size) refl).few in
      record {
        are = features_by_roots m side thousandths whole (leavings_of steps) pruned.last pruned.owner pruned.pruning regions.roots regions.regions kept pruned.are_kept list
            (features_are m side pruned.owner regions.roots kept all list tallied made);
        points = features_points side (range_of (present_heights m)) kept all list (cell_count m.size) owned.whole (λ i d below.
            let pit = (get_or kept i no_kept).pit.index in
            let e = ap (λ (t : Tally). t.points) (tallied i d no_kept (subst (λ n. i < n) owned.whole below)) in
            omega (arith, e, owned_few m pruned.owner regions.roots pit)) made whole.size.cells;
        heights = features_heights side (range_of (present_heights m)) kept all list pruned_heights (λ r is. range_heights m r whole is) made;
        few = omega (arith, made.whole, most);
      }

-- the same of the kept pits alone
module _ (m : Map) (side : SideName) (thousandths : ℕ) (whole : IsMap m) (roots : List (Option ℕ)) (kept : List Kept) (regions : AreRegions m side roots)
    (alone : AreKeptAlone m side thousandths kept) where
  pub heights_known : All HasHeights kept
  heights_known = kept_heights m side thousandths whole alone.steps alone.last alone.owner alone.pruning kept alone.are_kept

  few_kept : length kept ≤ 4194304
  few_kept =
      let ordered = kept_ordered m side thousandths whole alone.steps alone.last alone.owner alone.pruning kept alone.are_kept in
      let inside = kept_inside m side thousandths whole alone.steps alone.last alone.owner alone.pruning kept alone.are_kept in
      let count = rising_few (λ (k : Kept). k.pit.index) kept (cell_count m.size) ordered inside in
      omega (arith, count, whole.size.cells)

  pub height_outcome : (ks : List Kept) (name : SideName) (range : Option HeightRange) (list : List Region) → ks ≡ kept → name ≡ side → range ≡ range_of (present_heights m)
      → AreHeightsWith name range ks (length ks) list → HeightOutcome m side thousandths list
  height_outcome ks name range list same_kept same_side same_range listed =
      let heights : AreHeightsWith side (range_of (present_heights m)) kept (length kept) list =
      subst (λ r. AreHeightsWith side r kept (length kept) list) same_range (subst (λ s. AreHeightsWith s range kept (length kept) list) same_side
      (subst (λ (xs : List Kept). AreHeightsWith name range xs (length xs) list) same_kept listed)) in
      let none : List Tally = replicate (length kept) no_tally in
      let none_at : (i : ℕ) (t : Tally) → i < length kept → get_or none i t ≡ no_tally = λ i t below. get_or-replicate (length kept) i no_tally t below in
      let made : AreFeaturesWith side (range_of (present_heights m)) kept none (length kept) list = record {
        whole = heights.whole;
        each = λ i d k t below. heights.each i d k below ∙ ap (feature_with side (range_of (present_heights m)) (get_or kept i k)) (sym (none_at i t below));
      } in
      let long : length none ≡ length kept = length-replicate (length kept) no_tally in
      record {
        are = (
          map (feature_of m side alone.owner roots) kept,
          features_by_roots m side thousandths whole alone.steps alone.last alone.owner alone.pruning roots regions kept alone.are_kept
              (map (feature_of m side alone.owner roots) kept) refl,
          heights_are m side alone.owner roots kept none list (λ i below. none_at i no_tally below) made,
        );
        points = features_points side (range_of (present_heights m)) kept none list 0 long
            (λ i d below. let e = ap (λ (t : Tally). t.points) (none_at i d (subst (λ n. i < n) long below)) in omega (arith, e)) made (omega arith);
        heights = features_heights side (range_of (present_heights m)) kept none list heights_known (λ r is. range_heights m r whole is) made;
        few = (let few = few_kept in omega (arith, made.whole, few));
      }

-- the mean of small local heights is small
pub small_value : ((n : Notation) (regions : List Region) (area bound : ℕ) (f : Frac) → n.attribute ≡ Lpvh → n.statistic ≡ Mean
    → All (λ r. unsigned_abs r.lpvh ≤ bound) regions → IsValue n regions area (Some f) → (unsigned_abs f.num ≤ length regions * bound) × (f.den ≤ length regions))
    → (n : Notation) (regions : List Region) (area : ℕ) (value : Option Frac) → n.attribute ≡ Lpvh → n.statistic ≡ Mean
    → All (λ r. unsigned_abs r.lpvh ≤ farthest_apart) regions → length regions ≤ 4194304 → IsValue n regions area value → ForSome value IsSmall
small_value law n regions area value attribute statistic heights few is f same =
    let b = law n regions area farthest_apart f attribute statistic heights (subst (λ (v : Option Frac). IsValue n regions area v) same is) in
    record { num = le_trans b.0 (mul-le-mul_right farthest_apart few); den = le_trans b.1 few }

-- a value over regions that serve a notation is its value
pub served : ((n : Notation) (regions : List Region) (area : ℕ) (value : Option Frac) → heights_serve n ≡ true → IsValue n (map height_alone regions) area value → IsValue n regions area value)
    → (m : Map) (n : Notation) (list : List Region) (area : ℕ) (value : Option Frac) → AreServing m n list → area ≡ length (present_heights m) → IsValue n list area value → IsNotationValue m n value
served law m n list area value s e is = record { features = s.features; are = s.are; is = subst (λ a. IsValue n s.features a value) e (by s.serve) }
  where
    by : (list ≡ s.features) ⊎ ((heights_serve n ≡ true) × (list ≡ map height_alone s.features)) → IsValue n s.features area value
    by (inl same) = subst (λ (rs : List Region). IsValue n rs area value) same is
    by (inr alone) = law n s.features area value alone.0 (subst (λ (rs : List Region). IsValue n rs area value) alone.1 is)
