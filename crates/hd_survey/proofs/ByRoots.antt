-- Regions by a list of the roots are those of the map.
use Rattle.std.proofs.Common.{◌≡◌, ◌∙◌, ℕ, List, [], ◌∷◌, map, Option, refl, sym, ap, subst}
use Rattle.std.specs.Prelude.{Contains}
use Rattle.hd_feature.specs.declared.region.Region.{Region}
use Rattle.hd_lines.specs.Lines.{IsOwnedBy}
use Rattle.hd_map.specs.declared.types.Rank.{Rank}
use Rattle.hd_map.specs.declared.types.RegionSize.{RegionSize}
use Rattle.hd_map.specs.declared.types.SideName.{SideName}
use Rattle.hd_map.specs.Map.{Map, IsMap}
use Rattle.hd_map.specs.Pruning.{ArePits, IsPruning, Leaving}
use Rattle.hd_map.specs.Region.{AreRegions, IsRoot}
use Rattle.hd_map.specs.Sums.{IsCount}
use Rattle.hd_prune.specs.declared.step.Kept.{Kept}
use Rattle.hd_prune.specs.Kept.{AreKept}
use Rattle.hd_regions.specs.Owned.{ArePrunedRegions}
use Rattle.hd_regions.specs.Regions.{AreRegionSizes, region_pits}
use Rattle.hd_survey.specs.Features.{AreFeatures, IsFeature, feature_of, feature_pits}
use Rattle.hd_survey.specs.Owned.{owned_size, owns}
use Rattle.hd_survey.specs.Regions.{AreSizesByRoots, names, pit_ranks, points_of, region_size}
use Rattle.hd_survey.proofs.EdgeHeights.{greatest-edge, least-edge}
use Rattle.hd_survey.proofs.Lists.{Contains-map, map-Contains}
use Rattle.hd_survey.proofs.MapPits.{ranks_pits}
use Rattle.hd_survey.proofs.Members.{TellsMembers, are-members, members, members-count, tells-owned, tells-region}
use Rattle.hd_survey.proofs.OwnedTallies.{points_rooted}
use Rattle.hd_survey.proofs.PrunedPits.{pruning_pits}

-- what is made of keys has them
keys_made : {X Y Z : Type 0} (make : X → Y) (key : Y → Z) (of : X → Z) (xs : List X) → ((x : X) → key (make x) ≡ of x) → map key (map make xs) ≡ map of xs
keys_made make key of [] same = refl
keys_made make key of (x ∷ xs) same = ap (λ z. z ∷ map key (map make xs)) (same x) ∙ ap (λ zs. of x ∷ zs) (keys_made make key of xs same)

map_self : {X : Type 0} (xs : List X) → map (λ x. x) xs ≡ xs
map_self [] = refl
map_self (x ∷ xs) = ap (λ ys. x ∷ ys) (map_self xs)

-- the regions of the pits
pub sizes_by_roots : (m : Map) (side : SideName) (sizes : List RegionSize) → IsMap m → AreSizesByRoots m side sizes → AreRegionSizes m side sizes
sizes_by_roots m side sizes whole by =
    let pits : List Rank = pit_ranks m by.roots in
    let ranked : ArePits m side pits = ranks_pits m side by.roots whole by.regions in
    let same : region_pits sizes ≡ pits = ap region_pits by.are ∙ keys_made (region_size by.roots) (λ (size : RegionSize). size.pit) (λ (p : Rank). p) pits (λ p. refl) ∙ map_self pits in
    record {
      pits = subst (ArePits m side) (sym same) ranked;
      points = λ size at. (
          let from = Contains-map (region_size by.roots) pits size (subst (λ (xs : List RegionSize). Contains xs size) by.are at) in
          let pit : Rank = from.0 in
          subst (λ (one : RegionSize). IsCount (λ p. IsRoot m side p one.pit) one.points) from.2
          (members-count m whole side by.roots by.regions (λ o. names o pit.index) (λ p. IsRoot m side p pit) (tells-region m side pit ((ranked.exactly pit).0 from.1))
          (points_of by.roots pit.index) (points_rooted m by.roots pit by.regions.whole)));
    }

module _ (m : Map) (side : SideName) (thousandths : ℕ) (whole : IsMap m) (steps : List Leaving) (last : List Rank) (owner : Rank → Rank) (pruning : IsPruning m side thousandths steps last owner)
    (roots : List (Option ℕ)) (regions : AreRegions m side roots) where
  tells : (pit : Rank) → Contains last pit → TellsMembers m side (owns m owner pit.index) (λ p. IsOwnedBy m side owner p pit)
  tells pit at =
      let still = (pruning_pits m side thousandths steps last owner pruning).1 in
      tells-owned m side owner pit still.owners (still.are_kept pit at)

  -- the regions that a pruning leaves
  pub left_by_roots : (kept : List RegionSize) → kept ≡ map (owned_size m owner roots) last → ArePrunedRegions m side thousandths steps kept
  left_by_roots kept are =
      let same : region_pits kept ≡ last = ap region_pits are ∙ keys_made (owned_size m owner roots) (λ (size : RegionSize). size.pit) (λ (p : Rank). p) last (λ p. refl) ∙ map_self last in
      record {
        owner = owner;
        pruning = subst (λ (pits : List Rank). IsPruning m side thousandths steps pits owner) (sym same) pruning;
        points = λ size at. (
            let from = Contains-map (owned_size m owner roots) last size (subst (λ (xs : List RegionSize). Contains xs size) are at) in
            let pit : Rank = from.0 in
            subst (λ (one : RegionSize). IsCount (λ p. IsOwnedBy m side owner p one.pit) one.points) from.2
            (members-count m whole side roots regions (owns m owner pit.index) (λ p. IsOwnedBy m side owner p pit) (tells pit from.1) _ refl));
      }

  -- and what feature parameters take of them
  pub features_by_roots : (kept : List Kept) → AreKept m side last kept → (features : List Region) → features ≡ map (feature_of m side owner roots) kept → AreFeatures m side thousandths features
  features_by_roots kept are_kept features are =
      let same : feature_pits features ≡ last = ap feature_pits are ∙ keys_made (feature_of m side owner roots) (λ (r : Region). r.pit) (λ (k : Kept). k.pit) kept (λ k. refl) ∙ are_kept.pits in
      record {
        steps = steps;
        owner = owner;
        pruning = subst (λ (pits : List Rank). IsPruning m side thousandths steps pits owner) (sym same) pruning;
        each = λ r at. (
            let from = Contains-map (feature_of m side owner roots) kept r (subst (λ (xs : List Region). Contains xs r) are at) in
            let k : Kept = from.0 in
            let there : Contains last k.pit = subst (λ (pits : List Rank). Contains pits k.pit) are_kept.pits (map-Contains (λ (x : Kept). x.pit) kept k from.1) in
            let told = tells k.pit there in
            let owned = are-members m whole side roots regions (owns m owner k.pit.index) (λ p. IsOwnedBy m side owner p k.pit) told in
            let list : List ℕ = members m whole side roots regions (owns m owner k.pit.index) (λ p. IsOwnedBy m side owner p k.pit) told in
            let one : IsFeature m side owner last (feature_of m side owner roots k) = record {
              nearest = k.nearest;
              is_nearest = are_kept.nearest k from.1;
              height = refl;
              points = members-count m whole side roots regions (owns m owner k.pit.index) (λ p. IsOwnedBy m side owner p k.pit) told _ refl;
              edge_low = least-edge m (λ p. IsOwnedBy m side owner p k.pit) list owned;
              edge_high = greatest-edge m (λ p. IsOwnedBy m side owner p k.pit) list owned;
            } in
            subst (IsFeature m side owner (feature_pits features)) from.2 (subst (λ (pits : List Rank). IsFeature m side owner pits (feature_of m side owner roots k)) (sym same) one));
      }
