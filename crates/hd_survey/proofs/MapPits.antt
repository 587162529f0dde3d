-- The pits of a map, index by index.
use Rattle.std.proofs.Common.{◌≡◌, ◌≢◌, ◌<◌, ◌≤◌, ◌+◌, ◌++◌, ℕ, true, false, List, [], ◌∷◌, zero, suc, length, get_or, drop, map, Option, Some, None}
use Rattle.std.proofs.Common.{refl, sym, ap, ◌∙◌, subst, nat_eq, arith, append-nil, append_assoc}
use Rattle.std.specs.List.{Contains, AllPairs}
use Rattle.std.specs.Prelude.{All}
use Rattle.std.proofs.lemmas.Bool.Decides.{nat_tests}
use Rattle.std.proofs.lemmas.Option.{slice_get-get_or}
use Rattle.std.proofs.lemmas.List.{drop_all, map-id}
use Rattle.std.proofs.lemmas.Simd.{map-map}
use Rattle.std.proofs.lemmas.List.Elements.{Contains-get_or}
use Rattle.hd_map.specs.declared.types.Pos.{Pos}
use Rattle.hd_map.specs.declared.types.Rank.{Rank}
use Rattle.hd_map.specs.declared.types.SideName.{SideName}
use Rattle.hd_map.specs.Map.{Map, IsMap, InGrid, Present, place_of, position_at, cell_count}
use Rattle.hd_map.specs.Pruning.{ArePits}
use Rattle.hd_map.specs.Rank.{rank}
use Rattle.hd_map.specs.Region.{AreRegions, IsPit}
use Rattle.hd_map.proofs.Points.{position_at-place, position_at-inside, place_inside, same_index, point_at, point_inside}
use Rattle.hd_map.proofs.Nexts.{root-is_pit, root-of_pit}
use Rattle.hd_graph.specs.declared.graph.Low.{Low}
use Rattle.hd_graph.specs.Basins.{ArePitsOf}
use Rattle.hd_prune.specs.Staying.{ranks_of}
use Rattle.hd_steep.proofs.Pits.{ArePitsBefore, pits_all, pits_none, pits_pass, pits_push}
use Rattle.hd_survey.specs.PitLinks.{low_of}
use Rattle.hd_survey.specs.Regions.{names, pit_ranks, rank_at}
use Rattle.hd_survey.proofs.Counts.{pits_from, pits_from-other, pits_from-own}
use Rattle.hd_survey.proofs.Lists.{AllPairs-map, Contains-map, map-Contains}
use Rattle.hd_survey.proofs.RootedPoints.{rooted_present}

-- the rank of an index is that of its position
pub rank_at-position : (m : Map) (k : ℕ) → 1 ≤ m.size.points → rank m (position_at m.size k) ≡ rank_at m k
rank_at-position m k some = ap (rank_at m) (position_at-place m.size k some)

-- what is named is the root
pub name_is : (root : Option ℕ) (k : ℕ) → names root k ≡ true → root ≡ Some k
name_is None k h = cc
name_is (Some n) k h = let e : n ≡ k = grind (arith, nat_tests) in ap Some e

some_one : (a b : Option ℕ) → ◌≡◌ {A = Option (Option ℕ)} (Some a) (Some b) → a ≡ b
some_one a b e = cc

number_one : (a b : ℕ) → ◌≡◌ {A = Option ℕ} (Some a) (Some b) → a ≡ b
number_one a b e = cc

-- a pit is the rank of its index
pub pit_rank : (m : Map) (side : SideName) (p : Rank) → IsPit m side p → p ≡ rank_at m p.index
pit_rank m side p pit = pit.point.rank_is ∙ ap (rank_at m) (sym (ap (λ (r : Rank). r.index) pit.point.rank_is))

module _ (m : Map) (side : SideName) (roots : List (Option ℕ)) (whole : IsMap m) (regions : AreRegions m side roots) where
  -- the point that is its own root is present
  pub own_present : (k : ℕ) → k < length roots → names (get_or roots k None) k ≡ true → Present m (position_at m.size k)
  own_present k below own =
      let fits : k < cell_count m.size = rw (← regions.whole) below in
      let place : place_of m.size (position_at m.size k) ≡ k = position_at-place m.size k whole.size.some_points in
      let inside : InGrid m.size (position_at m.size k) = position_at-inside m.size k whole.size.some_points fits in
      rooted_present m side roots (position_at m.size k) k regions inside (ap (λ i. get_or roots i None) place ∙ name_is (get_or roots k None) k own)

  -- and is a pit
  pub own_pit : (k : ℕ) → k < length roots → names (get_or roots k None) k ≡ true → IsPit m side (rank m (position_at m.size k))
  own_pit k below own =
      let p : Pos = position_at m.size k in
      let place : place_of m.size p ≡ k = position_at-place m.size k whole.size.some_points in
      let here : Present m p = own_present k below own in
      let found = regions.present p here in
      let pit = root-is_pit m side (rank m p) found.0 found.1 in
      let there : place_of m.size p < length roots = rw place below in
      let named : get_or roots (place_of m.size p) None ≡ Some k = ap (λ i. get_or roots i None) place ∙ name_is (get_or roots k None) k own in
      let same : k ≡ (found.0).index = number_one k (found.0).index (sym named ∙ some_one _ _ (sym (slice_get-get_or roots (place_of m.size p) None there) ∙ found.2)) in
      subst (IsPit m side) (same_index m found.0 (rank m p) pit.point (point_at m p here) (sym same ∙ sym place)) pit

  -- a pit is its own root
  pub pit_own : (p : Rank) → IsPit m side p → names (get_or roots p.index None) p.index ≡ true
  pit_own p pit =
      let at : Pos = pit.point.at in
      let here : Present m at = pit.point.present in
      let index : p.index ≡ place_of m.size at = ap (λ (r : Rank). r.index) pit.point.rank_is in
      let there : place_of m.size at < length roots = rw regions.whole (place_inside m.size at here.in_grid) in
      let found = regions.present at here in
      let root : found.0 ≡ rank m at = root-of_pit m side (rank m at) found.0 (subst (IsPit m side) pit.point.rank_is pit) found.1 in
      let named : get_or roots (place_of m.size at) None ≡ Some (found.0).index = some_one _ _ (sym (slice_get-get_or roots (place_of m.size at) None there) ∙ found.2) in
      let own : get_or roots p.index None ≡ Some p.index = ap (λ i. get_or roots i None) index ∙ named ∙ ap (λ (r : Rank). Some r.index) root ∙ ap Some (sym index) in
      ap (λ o. names o p.index) own ∙ (let e : nat_eq p.index p.index ≡ true = grind (arith, nat_tests) in e)

module _ (m : Map) (side : SideName) (roots : List (Option ℕ)) (whole : IsMap m) (regions : AreRegions m side roots) where
  abbrev rest_of : ℕ → List Rank
  rest_of k = map (rank_at m) (pits_from k (drop k roots))

  -- the pits before an index, and then those from it on
  pits_on : (n k : ℕ) (pits : List Rank) → k + n ≡ length roots → ArePitsBefore m side k pits → ArePits m side (pits ++ rest_of k)
  pits_on zero k pits last before =
      let past : length roots ≤ k = omega (arith, last) in
      subst (ArePits m side) (sym (ap (λ xs. pits ++ map (rank_at m) (pits_from k xs)) (drop_all k roots past) ∙ append-nil pits)) (pits_all m side k pits (omega (arith, past, regions.whole)) before)
  pits_on (suc n) k pits last before =
      let below : k < length roots = omega (arith, last) in
      let next : (k + 1) + n ≡ length roots = omega (arith, last) in
      elim (names (get_or roots k None) k) as (λ b. names (get_or roots k None) k ≡ b → ArePits m side (pits ++ rest_of k)) [
        | true ↦ λ own.
            let pit : IsPit m side (rank_at m k) = subst (IsPit m side) (rank_at-position m k whole.size.some_points) (own_pit m side roots whole regions k below own) in
            subst (ArePits m side)
            (append_assoc pits (rank_at m k ∷ []) (rest_of (k + 1)) ∙ ap (λ ks. pits ++ map (rank_at m) ks) (sym (pits_from-own roots k below own)))
            (pits_on n (k + 1) (pits ++ rank_at m k ∷ []) next (pits_push m side k pits (rank_at m k) pit refl before))
        | false ↦ λ other.
            let none : (p : Rank) → IsPit m side p → p.index ≡ k → ⊥ = λ p pit same.
            (let own : names (get_or roots k None) k ≡ true = subst (λ i. names (get_or roots i None) i ≡ true) same (pit_own m side roots whole regions p pit) in
            let no = other in cc) in
            subst (ArePits m side) (ap (λ ks. pits ++ map (rank_at m) ks) (sym (pits_from-other roots k below other)))
            (pits_on n (k + 1) pits next (pits_pass m side k pits none before))
      ] refl

  -- the points that are their own roots are the pits of the map in position order
  pub ranks_pits : ArePits m side (pit_ranks m roots)
  ranks_pits = pits_on (length roots) 0 [] (omega arith) (pits_none m side)

-- a pit of a map is a point of the grid
pub pits_inside : (m : Map) (side : SideName) (pits : List Rank) → ArePits m side pits → All (λ p. p.index < cell_count m.size) pits
pits_inside m side pits are k d below = point_inside m (get_or pits k d) ((are.exactly (get_or pits k d)).0 (Contains-get_or pits k d below)).point

-- pits as lows
module _ (m : Map) (side : SideName) (pits : List Rank) (are : ArePits m side pits) where
  abbrev lows : List Low
  lows = map {A = Rank} {B = Low} low_of pits

  pub lows_pits : ArePitsOf m side lows
  lows_pits x = (
    λ h. let from = Contains-map low_of pits x h in subst (λ (y : Low). IsPit m side y.rank × (y.pit ≡ true)) from.2 ((are.exactly from.0).0 from.1, refl),
    λ (pit, is). subst (λ t. Contains lows (record { rank = x.rank; pit = t })) (sym is) (map-Contains low_of pits x.rank ((are.exactly x.rank).1 pit)),
  )

  pub lows_apart : AllPairs (λ x y. x.rank.index ≢ y.rank.index) lows
  lows_apart = AllPairs-map low_of (λ (x : Low) (y : Low). x.rank.index ≢ y.rank.index) pits
      (λ i j d less inside same. let rises = are.in_order i j d less inside in omega (arith, rises, same))

  pub lows_ranks : ranks_of lows ≡ pits
  lows_ranks = map-map (λ (x : Low). x.rank) low_of pits ∙ map-id pits
