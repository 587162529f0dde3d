-- What kept pits own, from a pruning and the numbers of the points of the regions.
use Rattle.std.proofs.Common.{◌≡◌, ◌<◌, ◌≤◌, ◌^◌, ◌∙◌, ℕ, suc, Bool, true, false, List, [], ◌∷◌, length, get_or, map, Option, None, refl, sym, ap, subst, arith}
use Rattle.std.specs.Prelude.{All, AllPairs, pos, if◌then◌else◌}
use Rattle.std.proofs.lemmas.List.{get_or-map, length-map}
use Rattle.std.proofs.lemmas.Simd.{map-map}
use Rattle.hd_map.specs.declared.types.Rank.{Rank}
use Rattle.hd_map.specs.declared.types.RegionSize.{RegionSize}
use Rattle.hd_map.specs.declared.types.SideName.{SideName}
use Rattle.hd_map.specs.Map.{Map, IsMap, cell_count}
use Rattle.hd_map.specs.Region.{AreRegions}
use Rattle.hd_map.proofs.Prunings.{pits-unique}
use Rattle.hd_prune.specs.declared.step.Kept.{Kept}
use Rattle.hd_prune.specs.declared.step.Owned.{Owned}
use Rattle.hd_prune.specs.declared.step.Step.{Step}
use Rattle.hd_prune.specs.Answer.{IsPruned}
use Rattle.hd_prune.specs.Pruned.{leavings_of, owned_by}
use Rattle.hd_regions.specs.declared.tally.Tally.{Tally}
use Rattle.hd_survey.specs.Owned.{AreKeptPlaces, AreOwnedTallies, ArePlacedTallies, AreSized, HavePoints, is_owned, is_placed, joined_of, owned_points, owned_size, plain_tally}
use Rattle.hd_survey.specs.Regions.{AreSizesByRoots, pit_ranks, points_of, region_size}
use Rattle.hd_survey.specs.Tallies.{AreRegionTallies, joined, no_tally, region_tally, tally_of}
use Rattle.hd_survey.proofs.FeaturePoints.{kept_inside, kept_ordered, owners_owned}
use Rattle.hd_survey.proofs.Lists.{map_same, rising_few, same_lists}
use Rattle.hd_survey.proofs.MapPits.{ranks_pits}
use Rattle.hd_survey.proofs.OwnedTallies.{owned_few, owned_tally, points_rooted}

no_kept : Kept
no_kept = record { pit = record { height = pos 0; index = 0 }; nearest = None }

abbrev points_in : Tally → ℕ
points_in t = t.points

head_same : (x y : ℕ) (xs ys : List ℕ) → x ∷ xs ≡ y ∷ ys → x ≡ y
head_same x y xs ys e = cc

tail_same : (x y : ℕ) (xs ys : List ℕ) → x ∷ xs ≡ y ∷ ys → xs ≡ ys
tail_same x y xs ys e = cc

picked : (b : Bool) (t u r s : Tally) → t.points ≡ u.points → r.points ≡ s.points → (if b then joined t r else r).points ≡ (if b then joined u s else s).points
picked true t u r s e f = omega (arith, e, f)
picked false t u r s e f = f

-- the points of what is joined rest on the points alone
points_joined : (own : Owned → Bool) (os : List Owned) (ts us : List Tally) → map points_in ts ≡ map points_in us → (joined_of own os ts).points ≡ (joined_of own os us).points
points_joined own [] ts us e = refl
points_joined own (o ∷ os) [] [] e = refl
points_joined own (o ∷ os) [] (u ∷ us) e = absurd (cc e)
points_joined own (o ∷ os) (t ∷ ts) [] e = absurd (cc e)
points_joined own (o ∷ os) (t ∷ ts) (u ∷ us) e =
    picked (own o) t u (joined_of own os ts) (joined_of own os us) (head_same t.points u.points (map points_in ts) (map points_in us) e)
    (points_joined own os ts us (tail_same t.points u.points (map points_in ts) (map points_in us) e))

-- what is joined of two tests that agree
joined_same : (f g : Owned → Bool) (os : List Owned) (ts : List Tally) → All (λ o. f o ≡ g o) os → joined_of f os ts ≡ joined_of g os ts
joined_same f g [] ts all = refl
joined_same f g (o ∷ os) [] all = refl
joined_same f g (o ∷ os) (t ∷ ts) all =
    ap (λ b. if b then joined t (joined_of f os ts) else joined_of f os ts) (all 0 o (omega arith))
    ∙ ap (λ x. if g o then joined t x else x) (joined_same f g os ts (λ k d below. all (suc k) d (omega arith)))

abbrev size_points : RegionSize → ℕ
size_points size = size.points

-- the numbers of points in the sizes of regions, and in their tallies
pub sizes_have : (m : Map) (side : SideName) (sizes : List RegionSize) → AreSizesByRoots m side sizes → HavePoints m side (map size_points sizes)
sizes_have m side sizes are = record {
  roots = are.roots;
  regions = are.regions;
  are = ap (map size_points) are.are ∙ map-map size_points (region_size are.roots) (pit_ranks m are.roots);
}

pub plain_have : (m : Map) (side : SideName) (sizes : List RegionSize) → AreSizesByRoots m side sizes → HavePoints m side (map points_in (map plain_tally sizes))
plain_have m side sizes are = record {
  roots = are.roots;
  regions = are.regions;
  are = map-map points_in plain_tally sizes ∙ ap (map size_points) are.are ∙ map-map size_points (region_size are.roots) (pit_ranks m are.roots);
}

pub tallies_have : (m : Map) (side : SideName) (tallies : List Tally) → AreRegionTallies m side tallies → HavePoints m side (map points_in tallies)
tallies_have m side tallies are = record {
  roots = are.roots;
  regions = are.regions;
  are = ap (map points_in) are.are ∙ map-map points_in (region_tally m are.roots) (pit_ranks m are.roots)
      ∙ sym (map_same (λ (pit : Rank). points_of are.roots pit.index) (λ (pit : Rank). (region_tally m are.roots pit).points) (pit_ranks m are.roots)
      (λ pit. points_rooted m are.roots pit are.regions.whole));
}

-- what is known of the kept pits and of the owners
pub record AreInside (count : ℕ) (kept : List Kept) (owners : List Owned) : Type 0 where
  pub few : length kept ≤ 4194304
  pub kept_in : All (λ k. k.pit.index < count) kept
  pub ordered : AllPairs (λ a b. a.pit.index < b.pit.index) kept
  pub owned : All (λ o. o.owner.index < count) owners

module _ (m : Map) (side : SideName) (thousandths : ℕ) (whole : IsMap m) (steps : List Step) (kept : List Kept) (owners : List Owned) (pruned : IsPruned m side thousandths steps kept owners) where
  pub pruned_inside : (count : ℕ) → count ≡ cell_count m.size → AreInside count kept owners
  pruned_inside count cells =
      let taken = leavings_of steps in
      let inside = kept_inside m side thousandths whole taken pruned.last pruned.owner pruned.pruning kept pruned.are_kept in
      let ordered = kept_ordered m side thousandths whole taken pruned.last pruned.owner pruned.pruning kept pruned.are_kept in
      let most = rising_few (λ (k : Kept). k.pit.index) kept (cell_count m.size) ordered inside in
      record {
        few = omega (arith, most, whole.size.cells);
        kept_in = subst (λ n. All (λ (k : Kept). k.pit.index < n) kept) (sym cells) inside;
        ordered = ordered;
        owned = subst (λ n. All (λ (o : Owned). o.owner.index < n) owners) (sym cells) (owners_owned m side thousandths whole taken pruned.last pruned.owner pruned.pruning owners pruned.owned);
      }

  -- the pits are those that are their own roots
  owners_are : (roots : List (Option ℕ)) → AreRegions m side roots → owners ≡ owned_by pruned.owner (pit_ranks m roots)
  owners_are roots regions = pruned.owned ∙ ap (owned_by pruned.owner) (pits-unique m side pruned.pruning.pits (pit_ranks m roots) pruned.pruning.are_pits (ranks_pits m side roots whole regions))

  -- the tallies of the regions that a kept pit owns, taken together
  pub owned_whole : (tallies : List Tally) (regions : AreRegionTallies m side tallies) (p : ℕ) → joined_of (is_owned p) owners tallies ≡ tally_of m (owned_points m pruned.owner regions.roots p)
  owned_whole tallies regions p =
      let pits : List Rank = pit_ranks m regions.roots in
      ap (λ (os : List Owned). joined_of (is_owned p) os tallies) (owners_are regions.roots regions.regions)
      ∙ ap (joined_of (is_owned p) (owned_by pruned.owner pits)) regions.are
      ∙ owned_tally m side whole regions.roots regions.regions pits (ranks_pits m side regions.roots whole regions.regions) pruned.owner p

  module _ (tallies : List Tally) (have : HavePoints m side (map points_in tallies)) where
    pub tallies_long : length tallies ≡ length owners
    tallies_long =
        sym (length-map tallies points_in) ∙ ap length have.are ∙ length-map (pit_ranks m have.roots) (λ (pit : Rank). points_of have.roots pit.index)
        ∙ sym (length-map (pit_ranks m have.roots) (λ (p : Rank). record { pit = p; owner = pruned.owner p }))
        ∙ sym (ap length (owners_are have.roots have.regions))

    same_points : map points_in tallies ≡ map points_in (map (region_tally m have.roots) (pit_ranks m have.roots))
    same_points = have.are
        ∙ map_same (λ (pit : Rank). points_of have.roots pit.index) (λ (pit : Rank). (region_tally m have.roots pit).points) (pit_ranks m have.roots)
        (λ pit. points_rooted m have.roots pit have.regions.whole)
        ∙ sym (map-map points_in (region_tally m have.roots) (pit_ranks m have.roots))

    -- how many points a kept pit owns
    pub owned_count : (p : ℕ) → (joined_of (is_owned p) owners tallies).points ≡ length (owned_points m pruned.owner have.roots p)
    owned_count p =
        points_joined (is_owned p) owners tallies (map (region_tally m have.roots) (pit_ranks m have.roots)) same_points
        ∙ ap (λ (os : List Owned). (joined_of (is_owned p) os (map (region_tally m have.roots) (pit_ranks m have.roots))).points) (owners_are have.roots have.regions)
        ∙ ap points_in (owned_tally m side whole have.roots have.regions (pit_ranks m have.roots) (ranks_pits m side have.roots whole have.regions) pruned.owner p)

    -- and no more than there are
    owned_small : (p : ℕ) → (joined_of (is_owned p) owners tallies).points < 2 ^ 31
    owned_small p =
        let count = owned_count p in
        let few = owned_few m pruned.owner have.roots p in
        omega (arith, count, few, whole.size.cells)

    module _ (places : List ℕ) (count : ℕ) (cells : count ≡ cell_count m.size) (are : AreKeptPlaces kept count places) where
      -- the owner of a pit has the place of a kept pit where it is that pit
      placed_owned : (i : ℕ) (k : Kept) → i < length kept → joined_of (is_placed places i) owners tallies ≡ joined_of (is_owned (get_or kept i k).pit.index) owners tallies
      placed_owned i k below = joined_same (is_placed places i) (is_owned (get_or kept i k).pit.index) owners tallies (λ j o inside.
          sym (are.each (get_or owners j o).owner.index i k ((pruned_inside count cells).owned j o inside) below))

      pub placed_small : (i : ℕ) → i < length kept → (joined_of (is_placed places i) owners tallies).points < 2 ^ 32
      placed_small i below =
          let same = ap points_in (placed_owned i no_kept below) in
          let small = owned_small (get_or kept i no_kept).pit.index in
          omega (arith, same, small)

      pub owned_are : (all : List Tally) → ArePlacedTallies (length kept) places owners tallies all → AreOwnedTallies kept owners tallies all
      owned_are all placed = record {
        whole = placed.whole;
        each = λ i d k below. placed.each i d below ∙ placed_owned i k below;
      }

    module _ (all : List Tally) (owned : AreOwnedTallies kept owners tallies all) (list : List RegionSize) (made : AreSized kept all (length kept) list) where
      -- the regions of the kept pits with all points that they own
      pub left_are : list ≡ map (owned_size m pruned.owner have.roots) pruned.last
      left_are =
          let make : Kept → RegionSize = λ k. owned_size m pruned.owner have.roots k.pit in
          same_lists list (map make kept) (made.whole ∙ sym (length-map kept make)) (λ i d below.
          let inside : i < length kept = subst (λ n. i < n) made.whole below in
          let one : Kept = get_or kept i no_kept in
          made.each i d no_kept no_tally inside
          ∙ ap (λ n. record { pit = one.pit; points = n }) (ap points_in (owned.each i no_tally no_kept inside) ∙ owned_count one.pit.index)
          ∙ sym (get_or-map make kept i no_kept d inside))
          ∙ sym (map-map (owned_size m pruned.owner have.roots) (λ (k : Kept). k.pit) kept)
          ∙ ap (map (owned_size m pruned.owner have.roots)) pruned.are_kept.pits

      pub left_inside : All (λ (size : RegionSize). size.pit.index < cell_count m.size) list
      left_inside i d below =
          let inside : i < length kept = subst (λ n. i < n) made.whole below in
          subst (λ (size : RegionSize). size.pit.index < cell_count m.size) (sym (made.each i d no_kept no_tally inside))
          ((pruned_inside (cell_count m.size) refl).kept_in i no_kept inside)
