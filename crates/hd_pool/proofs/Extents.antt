-- The extents of all regions tell their sizes and their tallies.
use Rattle.std.proofs.Common.{◌≡◌, ◌<◌, ◌^◌, ◌∙◌, ℕ, ℤ, List, [], ◌∷◌, length, get_or, map, Option, Some, None, refl, sym, ap, subst, arith}
use Rattle.std.specs.Prelude.{All, Contains}
use Rattle.std.proofs.lemmas.List.Elements.{Contains-get_or}
use Rattle.std.proofs.lemmas.Simd.{map-map}
use Rattle.hd_basin.specs.declared.extent.Extent.{Extent}
use Rattle.hd_basin.specs.Reading.{AreExtents, IsExtent}
use Rattle.hd_basin.proofs.ExtentSums.{count-few}
use Rattle.hd_map.specs.declared.height_range.HeightRange.{HeightRange}
use Rattle.hd_map.specs.declared.types.Rank.{Rank}
use Rattle.hd_map.specs.declared.types.SideName.{SideName}
use Rattle.hd_map.specs.EdgePoint.{IsEdge}
use Rattle.hd_map.specs.Map.{Map, IsMap}
use Rattle.hd_map.specs.Pruning.{ArePits}
use Rattle.hd_map.specs.Region.{AreRegions, IsPit, IsRoot}
use Rattle.hd_map.specs.Sums.{EdgeMember}
use Rattle.hd_map.proofs.Items.{Contains-head, Contains-tail}
use Rattle.hd_map.proofs.Prunings.{pits-unique}
use Rattle.hd_regions.specs.declared.tally.Tally.{Tally}
use Rattle.hd_regions.proofs.Sums.{count-unique, greatest-unique, least-unique}
use Rattle.hd_survey.specs.Regions.{AreSizesByRoots, names, pit_ranks, points_of, region_size}
use Rattle.hd_survey.specs.Tallies.{AreRegionTallies, region_tally}
use Rattle.hd_survey.proofs.EdgeHeights.{AreMembers, greatest-edge, least-edge}
use Rattle.hd_survey.proofs.HeightRanges.{greatest_end, least_end}
use Rattle.hd_survey.proofs.Members.{are-members, members, members-count, rooted-point, tells-region}
use Rattle.hd_survey.proofs.OwnedTallies.{points_rooted}
use Rattle.hd_survey.proofs.Lists.{AllPairs-map, Contains-map, map-Contains}
use Rattle.hd_survey.proofs.MapPits.{ranks_pits}
use Rattle.hd_pool.specs.Told.{range_between, size_told, tally_told}
use Rattle.hd_pool.proofs.Labels.{regions_of}

-- lists that are made alike of their items
map-on : {X Y : Type 0} (f g : X → Y) (xs : List X) → ((x : X) → Contains xs x → f x ≡ g x) → map f xs ≡ map g xs
map-on f g [] same = refl
map-on f g (x ∷ xs) same = ap (λ y. y ∷ map f xs) (same x (Contains-head x xs)) ∙ ap (λ ys. g x ∷ ys) (map-on f g xs (λ z at. same z (Contains-tail x z xs at)))

abbrev pit_told : Extent → Rank
pit_told e = e.pit

-- a range is the one from its least to its greatest
pub range_between-ends : (low high : Option ℤ) (range : Option HeightRange) → low ≡ least_end range → high ≡ greatest_end range → range_between low high ≡ range
range_between-ends low high None a b = ap (λ o. range_between o high) a
range_between-ends low high (Some r) a b = ap (λ o. range_between o high) a ∙ ap (range_between (Some r.least)) b

module _ (m : Map) (whole : IsMap m) (side : SideName) (extents : List Extent) (are : AreExtents m side extents) where
  told-pits : ArePits m side (map pit_told extents)
  told-pits = record {
    exactly = λ p. (
      λ h. (let from = Contains-map pit_told extents p h in subst (IsPit m side) from.2 (are.each from.0 from.1).is_pit),
      λ pit. (let e = are.all p pit in subst (Contains (map pit_told extents)) e.2 (map-Contains pit_told extents e.0 e.1)),
    );
    in_order = AllPairs-map pit_told (λ (p : Rank) (q : Rank). p.index < q.index) extents are.in_order;
  }

  abbrev roots : List (Option ℕ)
  roots = (regions_of m whole side).0

  regions : AreRegions m side roots
  regions = (regions_of m whole side).1

  pits-are : map pit_told extents ≡ pit_ranks m roots
  pits-are = pits-unique m side (map pit_told extents) (pit_ranks m roots) told-pits (ranks_pits m side roots whole regions)

  -- a list that tells the same of each region is that of the map
  told-as : {Y : Type 0} (told : Extent → Y) (of : Rank → Y) → ((e : Extent) → IsExtent m side e → told e ≡ of e.pit) → map told extents ≡ map of (pit_ranks m roots)
  told-as told of same = map-on told (λ (e : Extent). of e.pit) extents (λ e at. same e (are.each e at)) ∙ sym (map-map of pit_told extents) ∙ ap (map of) pits-are

  -- the points of a region, by their indexes
  abbrev In : Extent → Rank → Type 0
  In e p = IsRoot m side p e.pit

  abbrev region : (e : Extent) → IsExtent m side e → List ℕ
  region e is = members m whole side roots regions (λ o. names o e.pit.index) (In e) (tells-region m side e.pit is.is_pit)

  region-members : (e : Extent) (is : IsExtent m side e) → AreMembers m (In e) (region e is)
  region-members e is = are-members m whole side roots regions (λ o. names o e.pit.index) (In e) (tells-region m side e.pit is.is_pit)

  -- there are as many as is told
  counted-as : (e : Extent) (is : IsExtent m side e) (n : ℕ) → n ≡ length (region e is) → e.points ≡ n
  counted-as e is n same = count-unique (In e) e.points n (is.sums).counted
      (members-count m whole side roots regions (λ o. names o e.pit.index) (In e) (tells-region m side e.pit is.is_pit) n same)

  pub sizes-told : AreSizesByRoots m side (map size_told extents)
  sizes-told = record {
    roots = roots;
    regions = regions;
    are = told-as size_told (region_size roots) (λ e is.
        ap (λ (n : ℕ). record { pit = e.pit; points = n }) (counted-as e is (points_of roots e.pit.index) (points_rooted m roots e.pit regions.whole)));
  }

  same_tally : (a b : ℕ) (r s : Option HeightRange) → a ≡ b → r ≡ s → ◌≡◌ {A = Tally} (record { points = a; edge = r }) (record { points = b; edge = s })
  same_tally a b r s e f = cc

  pub tallies-told : AreRegionTallies m side (map tally_told extents)
  tallies-told = record {
    roots = roots;
    regions = regions;
    are = told-as tally_told (region_tally m roots) (λ e is. same_tally _ _ _ _
        (counted-as e is (region_tally m roots e.pit).points refl)
        (range_between-ends e.edge_low e.edge_high _
        (least-unique (EdgeMember (In e) (IsEdge m)) e.edge_low _ (is.sums).lowest_edge (least-edge m (In e) (region e is) (region-members e is)))
        (greatest-unique (EdgeMember (In e) (IsEdge m)) e.edge_high _ (is.sums).highest_edge (greatest-edge m (In e) (region e is) (region-members e is)))));
  }

  -- the numbers of points are within a u32
  pub points-few : All (λ (e : Extent). e.points < 2 ^ 32) extents
  points-few k d below =
      let e = get_or extents k d in
      let few = count-few m (λ p. IsRoot m side p e.pit) e.points whole (λ r root. rooted-point m side r e.pit root) ((are.each e (Contains-get_or extents k d below)).sums).counted in
      omega (arith, few)
