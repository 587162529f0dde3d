-- The neighbours below a point, in order, and their pits by a list of roots.
use Rattle.std.proofs.Common.{◌≡◌, ◌≢◌, ◌<◌, ◌≤◌, ◌+◌, ◌++◌, ℕ, Bool, true, false, List, [], ◌∷◌, length, get_or, take, map, Option, Some, None, inl, inr, refl, sym, ap, subst, ◌∙◌, arith}
use Rattle.std.specs.Prelude.{AllPairs, Contains, filter, slice_get, ◌↔◌}
use Rattle.std.specs.Cmp.{IsStrictWeakOrder}
use Rattle.std.specs.List.{refill}
use Rattle.std.specs.List.Sorted.{IsPermutation, IsSortedBy}
use Rattle.std.specs.Option.{option_map}
use Rattle.std.proofs.Math.Dec.{eqb}
use Rattle.std.proofs.lemmas.Bool.Decides.{Decides-eqb, eqb_tells}
use Rattle.std.proofs.lemmas.List.{map-append, take_more, length-map, get_or-map}
use Rattle.std.proofs.lemmas.List.Elements.{filter-append, Contains-get_or}
use Rattle.std.proofs.lemmas.List.Kept.{AllPairs-filter}
use Rattle.std.proofs.lemmas.List.Sorted.{sorted_far, Contains-permutation, IsPermutation-sym, IsPermutation-map}
use Rattle.std.proofs.lemmas.Map.Keys.{IsDistinct-IsPermutation}
use Rattle.std.proofs.lemmas.Map.Made.{AllPairs-from_IsDistinct, IsDistinct-from_AllPairs}
use Rattle.std.proofs.lemmas.Option.{slice_get-get_or, slice_get-map, slice_get_past}
use Rattle.hd_map.specs.declared.types.Pos.{Pos}
use Rattle.hd_map.specs.declared.types.Rank.{Rank}
use Rattle.hd_map.specs.declared.types.SideName.{SideName}
use Rattle.hd_map.specs.Map.{Map, Present, place_of, position_at}
use Rattle.hd_map.specs.Neighbour.{Neighbour}
use Rattle.hd_map.specs.Order.{IsStrictOrder}
use Rattle.hd_map.specs.Rank.{IsPoint, Near, below_by, rank}
use Rattle.hd_map.specs.Region.{AreRegions, IsRoot, LowerNeighbour}
use Rattle.hd_map.specs.SideLaws.{below_by-order}
use Rattle.hd_map.proofs.Nexts.{root-is_pit, root-unique}
use Rattle.hd_map.proofs.Points.{Near-at, Near-to, position_at-of, same_point}
use Rattle.hd_map.proofs.Order.{below-not_above, not_above-trans}
use Rattle.hd_prune.specs.Around.{AreLowerNeighbours, IsLowerNeighbourAt}
use Rattle.hd_survey.specs.declared.falls.Lower.{Lower}
use Rattle.hd_survey.specs.Falls.{ranks_below, ranks_of}
use Rattle.hd_survey.specs.Regions.{rank_at}
use Rattle.hd_survey.proofs.Lists.{AllPairs-map, Contains-filter, Contains-map, filter-Contains, map-Contains}
use Rattle.hd_survey.proofs.RootedPoints.{root_entry}

pub weak_order : (below : Rank → Rank → Bool) → IsStrictOrder below → IsStrictWeakOrder below
weak_order below order = record {
  one_way = λ x y h. below-not_above below order x y h;
  chain = λ x y z h k. not_above-trans below order z y x k h;
}

eqb-flips : (a b : ℕ) → eqb a b ≡ eqb b a
eqb-flips a b = elim (eqb_tells a b) [
  | inl same ↦ same.0 ∙ sym (elim (eqb_tells b a) [ inl s ↦ s.0 | inr o ↦ absurd (o.1 (sym same.1)) ])
  | inr other ↦ other.0 ∙ sym (elim (eqb_tells b a) [ inl s ↦ absurd (other.1 (sym s.1)) | inr o ↦ o.0 ])
]

indexes : List Rank → List ℕ
indexes xs = map (λ (r : Rank). r.index) xs

-- ranks of rising indexes, sorted by an order, rise in it
pub sorted_rise : (below : Rank → Rank → Bool) → IsStrictOrder below → (raw ys : List Rank) → AllPairs (λ a b. a.index < b.index) raw → IsPermutation raw ys → IsSortedBy below ys
    → AllPairs (λ a b. below a b ≡ true) ys
sorted_rise below order raw ys rising moved sorted =
    let numbers : Rank → ℕ = λ r. r.index in
    let apart : AllPairs (λ a b. a ≢ b) (map numbers raw) = AllPairs-map numbers (λ a b. a ≢ b) raw (λ i j d less inside same. (let lt = rising i j d less inside in omega (arith, lt, same))) in
    let once = IsDistinct-IsPermutation eqb eqb-flips (map numbers raw) (map numbers ys) (IsPermutation-map numbers raw ys moved) (IsDistinct-from_AllPairs Decides-eqb (map numbers raw) apart) in
    let differ = AllPairs-from_IsDistinct Decides-eqb (map numbers ys) once in
    λ i j d less inside.
    let x : Rank = get_or ys i d in
    let y : Rank = get_or ys j d in
    let long : length (map numbers ys) ≡ length ys = length-map ys numbers in
    let other : x.index ≢ y.index = λ same. differ i j d.index less (omega (arith, long, inside))
    (get_or-map numbers ys i d d.index (omega (arith, less, inside)) ∙ same ∙ sym (get_or-map numbers ys j d d.index inside)) in
    rises x y (sorted_far below (weak_order below order) ys sorted i j d (omega arith) inside) other
  where
    rises : (x y : Rank) → below y x ≡ false → x.index ≢ y.index → below x y ≡ true
    rises x y not other = elim (below x y) as (λ v. below x y ≡ v → v ≡ true) [
      | true ↦ λ e. refl
      | false ↦ λ e. absurd (other (ap (λ (r : Rank). r.index) (order.total x y e not)))
    ] refl

module _ (m : Map) (side : SideName) (point : Rank) where
  abbrev is_lower : Rank → Bool
  is_lower q = below_by side q point

  abbrev these : List Pos → List Rank
  these places = ranks_below m side point places

  ranks_more : (places : List Pos) (i : ℕ) (d : Pos) → i < length places → these (take (i + 1) places) ≡ these (take i places) ++ filter is_lower (rank m (get_or places i d) ∷ [])
  ranks_more places i d inside =
      ap these (take_more places i d inside)
      ∙ ap (filter is_lower) (map-append (rank m) (take i places) (get_or places i d ∷ []))
      ∙ filter-append is_lower (map (rank m) (take i places)) (rank m (get_or places i d) ∷ [])

  -- those at the neighbours of the point
  module _ (near : List Pos) (at : Pos) (is_point : IsPoint m point) (here : at ≡ position_at m.size point.index)
      (all : (q : Pos) → Contains near q ↔ Neighbour m at q) (ordered : AllPairs (λ a b. place_of m.size a < place_of m.size b) near) where
    at_point : at ≡ is_point.at
    at_point = here ∙ ap (λ (r : Rank). position_at m.size r.index) is_point.rank_is ∙ position_at-of m.size is_point.at is_point.present.in_grid

    point_is : point ≡ rank m at
    point_is = is_point.rank_is ∙ ap (rank m) (sym at_point)

    pub lower_exactly : (q : Rank) → Contains (these near) q ↔ LowerNeighbour m side point q
    lower_exactly q = (
      λ h.
          let kept = Contains-filter is_lower (map (rank m) near) q h in
          let place = Contains-map (rank m) near q kept.0 in
          record {
            near = subst (λ r. Near m r q) (sym point_is) (subst (Near m (rank m at)) place.2 (Near-at m at place.0 ((all place.0).0 place.1)));
            below = kept.1;
          },
      λ h.
          let from : h.near.from ≡ at = same_point m h.near.from at h.near.neighbour.from (subst (Present m) (sym at_point) is_point.present) (sym h.near.from_rank ∙ point_is) in
          let there : Contains near h.near.to = (all h.near.to).1 (subst (λ p. Neighbour m p h.near.to) from h.near.neighbour) in
          filter-Contains is_lower (map (rank m) near) q (subst (Contains (map (rank m) near)) (sym h.near.to_rank) (map-Contains (rank m) near h.near.to there)) h.below,
    )

    pub lower_rise : AllPairs (λ a b. a.index < b.index) (these near)
    lower_rise = AllPairs-filter (λ (a : Rank) (b : Rank). a.index < b.index) is_lower (map (rank m) near) (AllPairs-map (rank m) (λ (a : Rank) (b : Rank). a.index < b.index) near ordered)

-- the order of the neighbours is that of their ranks
pub lower_order : (below : Rank → Rank → Bool) → IsStrictOrder below → IsStrictWeakOrder (λ (a : Lower) (b : Lower). below a.rank b.rank)
lower_order below order = record {
  one_way = λ x y h. below-not_above below order x.rank y.rank h;
  chain = λ x y z h k. not_above-trans below order z.rank y.rank x.rank k h;
}

pub ranks_sorted : (below : Rank → Rank → Bool) (ys : List Lower) → IsSortedBy (λ a b. below a.rank b.rank) ys → IsSortedBy below (ranks_of ys)
ranks_sorted below ys sorted = λ i d lo hi.
    let e : Lower = record { rank = d } in
    let long : length (ranks_of ys) ≡ length ys = length-map ys (λ (x : Lower). x.rank) in
    let a : get_or (ranks_of ys) (i + 1) d ≡ (get_or ys (i + 1) e).rank = get_or-map (λ (x : Lower). x.rank) ys (i + 1) e d (omega (arith, long, hi)) in
    let b : get_or (ranks_of ys) i d ≡ (get_or ys i e).rank = get_or-map (λ (x : Lower). x.rank) ys i e d (omega (arith, long, hi)) in
    subst (λ r. below r (get_or (ranks_of ys) i d) ≡ false) (sym a) (subst (λ r. below (get_or ys (i + 1) e).rank r ≡ false) (sym b) (sorted i e lo (omega (arith, long, hi))))

-- the same where they change places
pub moved_exactly : (m : Map) (side : SideName) (point : Rank) (raw ys : List Rank) → IsPermutation raw ys → ((q : Rank) → Contains raw q ↔ LowerNeighbour m side point q)
    → (q : Rank) → Contains ys q ↔ LowerNeighbour m side point q
moved_exactly m side point raw ys moved exactly q = (
  λ h. (exactly q).0 (Contains-permutation ys raw q (IsPermutation-sym raw ys moved) h),
  λ h. Contains-permutation raw ys q moved ((exactly q).1 h),
)

-- the pit that a root names
named : Map → Option ℕ → Rank
named m (Some n) = rank_at m n
named m None = rank_at m 0

module _ (m : Map) (side : SideName) (roots : List (Option ℕ)) (regions : AreRegions m side roots) where
  abbrev root_rank : Rank → Rank
  root_rank p = named m (get_or roots p.index None)

  root_rank-is : (p : Rank) → IsPoint m p → IsRoot m side p (root_rank p)
  unfolding named
  root_rank-is p point =
      let found = root_entry m side roots regions p point in
      let pit = (root-is_pit m side p found.0 found.1).point in
      let named_is : root_rank p ≡ found.0 = ap (named m) found.2 ∙ ap (λ (r : Rank). rank_at m r.index) pit.rank_is ∙ sym pit.rank_is in
      subst (IsRoot m side p) (sym named_is) found.1

  abbrev with_root : Rank → Rank × Rank
  with_root p = (p, root_rank p)

  module _ (point : Rank) (lower : List Rank) (exactly : (q : Rank) → Contains lower q ↔ LowerNeighbour m side point q) (in_order : AllPairs (λ a b. below_by side a b ≡ true) lower) where
    pub lower_point : (q : Rank) → Contains lower q → IsPoint m q
    lower_point q there = Near-to m point q ((exactly q).0 there).near

    found_each : (b r : Rank) → Contains (map with_root lower) (b, r) → LowerNeighbour m side point b × IsRoot m side b r
    found_each b r there =
        let from = Contains-map with_root lower (b, r) there in
        let first : from.0 ≡ b = ap (λ (x : Rank × Rank). x.0) from.2 in
        let second : root_rank from.0 ≡ r = ap (λ (x : Rank × Rank). x.1) from.2 in
        let is : IsRoot m side from.0 (root_rank from.0) = root_rank-is from.0 (lower_point from.0 from.1) in (
          (exactly b).0 (subst (Contains lower) first from.1),
          subst (λ q. IsRoot m side q r) first (subst (IsRoot m side from.0) second is),
        )

    are_lower : AreLowerNeighbours m side point (map with_root lower)
    are_lower = record {
      each = found_each;
      all = λ b h. (root_rank b, map-Contains with_root lower b ((exactly b).1 h));
      in_order = AllPairs-map with_root (λ (x : Rank × Rank) (y : Rank × Rank). below_by side x.0 y.0 ≡ true) lower in_order;
    }

    -- the one at a place, with its root
    pub lower_some : (k : ℕ) (q r : Rank) → slice_get lower k ≡ Some q → IsRoot m side q r → IsPoint m q → IsLowerNeighbourAt m side point k (Some (q, r))
    lower_some k q r at is there =
        let same : r ≡ root_rank q = root-unique m side q r (root_rank q) is (root_rank-is q there) in (
          map with_root lower,
          are_lower,
          ap (λ s. Some (q, s)) same ∙ sym (slice_get-map with_root lower k ∙ ap (option_map with_root) at),
        )

    -- and none past the last
    pub lower_none : (k : ℕ) → slice_get lower k ≡ None → IsLowerNeighbourAt m side point k None
    lower_none k none = (map with_root lower, are_lower, sym (slice_get-map with_root lower k ∙ ap (option_map with_root) none))

-- an item at a place by its rank
pub rank_at_place : (items seen : List Lower) (k : ℕ) (d : Lower) → seen ≡ items → k < length items → slice_get (ranks_of items) k ≡ Some (get_or seen k d).rank
rank_at_place items seen k d same inside =
    let long : length (ranks_of items) ≡ length items = length-map items (λ (x : Lower). x.rank) in
    slice_get-get_or (ranks_of items) k d.rank (omega (arith, long, inside))
    ∙ ap (λ r. Some r) (get_or-map (λ (x : Lower). x.rank) items k d d.rank inside ∙ ap (λ xs. (get_or xs k d).rank) (sym same))

pub rank_of_place : (items seen : List Lower) (k : ℕ) (d : Lower) → seen ≡ items → k < length items → Contains (ranks_of items) (get_or seen k d).rank
rank_of_place items seen k d same inside =
    subst (λ xs. Contains (ranks_of items) (get_or xs k d).rank) (sym same) (map-Contains (λ (x : Lower). x.rank) items (get_or items k d) (Contains-get_or items k d inside))

pub none_past : (items : List Lower) (k : ℕ) → length items ≤ k → slice_get (ranks_of items) k ≡ None
none_past items k past = slice_get_past (ranks_of items) k (let long : length (ranks_of items) ≡ length items = length-map items (λ (x : Lower). x.rank) in omega (arith, long, past))

-- neighbours that are sorted in place
pub sorted_in_place : (m : Map) (side : SideName) (point : Rank) (raw items ys : List Lower) → items ≡ raw → IsPermutation items ys → IsSortedBy (λ a b. below_by side a.rank b.rank) ys
    → ((q : Rank) → Contains (ranks_of raw) q ↔ LowerNeighbour m side point q) → AllPairs (λ a b. a.index < b.index) (ranks_of raw)
    → ((q : Rank) → Contains (ranks_of ys) q ↔ LowerNeighbour m side point q) × AllPairs (λ a b. below_by side a b ≡ true) (ranks_of ys)
sorted_in_place m side point raw items ys same moved sorted each rise =
    let moved' : IsPermutation (ranks_of raw) (ranks_of ys) = IsPermutation-map (λ (x : Lower). x.rank) raw ys (subst (λ xs. IsPermutation xs ys) same moved) in (
      moved_exactly m side point (ranks_of raw) (ranks_of ys) moved' each,
      sorted_rise (below_by side) (below_by-order side) (ranks_of raw) (ranks_of ys) rise moved' (ranks_sorted (below_by side) ys sorted),
    )

-- what is filled up whole is the new list
pub refill_all : (xs ws : List Lower) → length ws ≡ length xs → refill (length xs) xs ws ≡ ws
refill_all [] [] e = refl
refill_all [] (w ∷ ws) e = absurd (omega arith)
refill_all (x ∷ xs) [] e = absurd (omega arith)
refill_all (x ∷ xs) (w ∷ ws) e = ap (λ ys. w ∷ ys) (refill_all xs ws (omega arith))
