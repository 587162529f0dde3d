-- The tallies of the regions that a kept pit owns, taken together, are the tally of all points that it owns.
use Rattle.std.proofs.Common.{◌≡◌, ◌<◌, ◌≤◌, ◌+◌, ◌∙◌, ℕ, ℤ, zero, suc, Bool, true, false, List, [], ◌∷◌, length, get_or, map, Option, Some, None, inl, inr, refl, sym, ap, subst, nat_eq, arith, take}
use Rattle.std.specs.Prelude.{AllPairs, Contains, filter, if◌then◌else◌}
use Rattle.std.specs.Int.{int_min, int_max}
use Rattle.std.specs.List.{range_with_len}
use Rattle.std.proofs.lemmas.Bool.Decides.{nat_tests}
use Rattle.std.proofs.lemmas.Int.{ints, int_min_is, int_max_is}
use Rattle.std.proofs.lemmas.List.{take_all}
use Rattle.std.proofs.lemmas.List.Elements.{filter-append}
use Rattle.std.proofs.lemmas.List.FromFn.{length-range_with_len}
use Rattle.std.proofs.lemmas.List.Sums.{count_by-le-length, count_by_more_no, count_by_more_yes, length-filter}
use Rattle.hd_map.specs.declared.height_range.HeightRange.{HeightRange}
use Rattle.hd_map.specs.declared.types.Rank.{Rank}
use Rattle.hd_map.specs.declared.types.SideName.{SideName}
use Rattle.hd_map.specs.Map.{Map, IsMap, cell_count}
use Rattle.hd_map.specs.Pruning.{ArePits}
use Rattle.hd_map.specs.Region.{AreRegions}
use Rattle.hd_map.proofs.Levels.{Contains-cases, Contains-head, Contains-none, Contains-tail}
use Rattle.hd_prune.specs.Pruned.{owned_by}
use Rattle.hd_regions.specs.declared.tally.Tally.{Tally}
use Rattle.hd_survey.specs.Owned.{is_owned, joined_of, owned_below, owned_points, owns}
use Rattle.hd_survey.specs.Regions.{names, points_of, rank_at}
use Rattle.hd_survey.specs.Tallies.{edge_with, joined, joined_ranges, no_tally, region_tally, rooted_below, tally_after, tally_of, tally_with}
use Rattle.hd_survey.proofs.Lists.{AllPairs-first, AllPairs-rest, map_same}
use Rattle.hd_survey.proofs.MapPits.{pit_rank}
use Rattle.hd_survey.proofs.RootedPoints.{root_pit}
use Rattle.hd_survey.proofs.Tallying.{counting_more, edge_at, tally_step}

same_range : (a b c d : ℤ) → a ≡ b → c ≡ d → ◌≡◌ {A = Option HeightRange} (Some (record { least = a; greatest = c })) (Some (record { least = b; greatest = d }))
same_range a b c d e f = cc

same_tally : (a b : ℕ) (r s : Option HeightRange) → a ≡ b → r ≡ s → ◌≡◌ {A = Tally} (record { points = a; edge = r }) (record { points = b; edge = s })
same_tally a b r s e f = cc

min_swap : (a b : ℤ) → int_min a b ≡ int_min b a
min_swap a b = omega (arith, ints, int_min_is a b, int_min_is b a)

max_swap : (a b : ℤ) → int_max a b ≡ int_max b a
max_swap a b = omega (arith, ints, int_max_is a b, int_max_is b a)

min_last : (a b c : ℤ) → int_min (int_min a c) b ≡ int_min (int_min a b) c
min_last a b c = omega (arith, ints, int_min_is a c, int_min_is (int_min a c) b, int_min_is a b, int_min_is (int_min a b) c)

max_last : (a b c : ℤ) → int_max (int_max a c) b ≡ int_max (int_max a b) c
max_last a b c = omega (arith, ints, int_max_is a c, int_max_is (int_max a c) b, int_max_is a b, int_max_is (int_max a b) c)

min_second : (a b c : ℤ) → int_min a (int_min b c) ≡ int_min (int_min a b) c
min_second a b c = omega (arith, ints, int_min_is b c, int_min_is a (int_min b c), int_min_is a b, int_min_is (int_min a b) c)

max_second : (a b c : ℤ) → int_max a (int_max b c) ≡ int_max (int_max a b) c
max_second a b c = omega (arith, ints, int_max_is b c, int_max_is a (int_max b c), int_max_is a b, int_max_is (int_max a b) c)

-- one more point of the first of two, or of the second, is one more of both
edges_first : (a b : Option HeightRange) (h : Option ℤ) → joined_ranges (edge_with a h) b ≡ edge_with (joined_ranges a b) h
edges_first a b None = refl
edges_first None None (Some h) = refl
edges_first None (Some b) (Some h) = same_range _ _ _ _ (min_swap h b.least) (max_swap h b.greatest)
edges_first (Some a) None (Some h) = refl
edges_first (Some a) (Some b) (Some h) = same_range _ _ _ _ (min_last a.least b.least h) (max_last a.greatest b.greatest h)

edges_second : (a b : Option HeightRange) (h : Option ℤ) → joined_ranges a (edge_with b h) ≡ edge_with (joined_ranges a b) h
edges_second a b None = refl
edges_second None b (Some h) = refl
edges_second (Some a) None (Some h) = refl
edges_second (Some a) (Some b) (Some h) = same_range _ _ _ _ (min_second a.least b.least h) (max_second a.greatest b.greatest h)

joined_first : (a b : Tally) (h : Option ℤ) → joined (tally_with a h) b ≡ tally_with (joined a b) h
joined_first a b h = same_tally _ _ _ _ (omega arith) (edges_first a.edge b.edge h)

joined_second : (c : Bool) (a b : Tally) (h : Option ℤ) → joined a (tally_after c b h) ≡ tally_after c (joined a b) h
joined_second true a b h = same_tally _ _ _ _ (omega arith) (edges_second a.edge b.edge h)
joined_second false a b h = refl

module _ (owner : Rank → Rank) (p : ℕ) where
  -- what is joined of these pits with these tallies
  abbrev all_of : List Rank → (Rank → Tally) → Tally
  all_of pits t = joined_of (is_owned p) (owned_by owner pits) (map t pits)

  none_of : (pits : List Rank) → all_of pits (λ q. no_tally) ≡ no_tally
  none_of [] = refl
  none_of (q ∷ qs) = ap (λ x. if nat_eq (owner q).index p then joined no_tally x else x) (none_of qs)
      ∙ elim (nat_eq (owner q).index p) as (λ b. (if b then joined no_tally no_tally else no_tally) ≡ no_tally) [ true ↦ refl | false ↦ refl ]

  module _ (t : Rank → Tally) (h : Option ℤ) (r : ℕ) where
    abbrev with_point : Rank → Tally
    with_point q = tally_after (nat_eq r q.index) (t q) h

    -- none of these pits has the point
    missed : (pits : List Rank) → ((q : Rank) → Contains pits q → r < q.index) → all_of pits with_point ≡ all_of pits t
    missed [] past = refl
    missed (q ∷ qs) past =
        let lt = past q (Contains-head q qs) in
        let no : nat_eq r q.index ≡ false = grind (arith, nat_tests) in
        ap (λ b. if nat_eq (owner q).index p then joined (tally_after b (t q) h) (all_of qs with_point) else all_of qs with_point) no
        ∙ ap (λ x. if nat_eq (owner q).index p then joined (t q) x else x) (missed qs (λ s there. past s (Contains-tail q s qs there)))

    first_hit : (b : Bool) (a rest : Tally) → (if b then joined (tally_with a h) rest else rest) ≡ tally_after b (if b then joined a rest else rest) h
    first_hit true a rest = joined_first a rest h
    first_hit false a rest = refl

    later_hit : (b c : Bool) (a rest : Tally) → (if b then joined a (tally_after c rest h) else tally_after c rest h) ≡ tally_after c (if b then joined a rest else rest) h
    later_hit true c a rest = joined_second c a rest h
    later_hit false c a rest = refl

    -- one of them has it
    hit : (pits : List Rank) (q : Rank) → AllPairs (λ a b. a.index < b.index) pits → Contains pits q → q.index ≡ r
        → all_of pits with_point ≡ tally_after (nat_eq (owner q).index p) (all_of pits t) h
    hit [] q rising there is = absurd (Contains-none q there)
    hit (s ∷ qs) q rising there is = elim (Contains-cases s q qs there) [
      | inl same ↦
          let here : s.index ≡ r = ap (λ (x : Rank). x.index) (sym same) ∙ is in
          let yes : nat_eq r s.index ≡ true = grind (arith, nat_tests) in
          ap (λ b. if nat_eq (owner s).index p then joined (tally_after b (t s) h) (all_of qs with_point) else all_of qs with_point) yes
          ∙ ap (λ x. if nat_eq (owner s).index p then joined (tally_with (t s) h) x else x)
          (missed qs (λ z far. (let lt = AllPairs-first (λ (a : Rank) (b : Rank). a.index < b.index) s qs z rising far in omega (arith, lt, here))))
          ∙ first_hit (nat_eq (owner s).index p) (t s) (all_of qs t)
          ∙ ap (λ (x : Rank). tally_after (nat_eq (owner x).index p) (if nat_eq (owner s).index p then joined (t s) (all_of qs t) else all_of qs t) h) (sym same)
      | inr later ↦
          let lt = AllPairs-first (λ (a : Rank) (b : Rank). a.index < b.index) s qs q rising later in
          let no : nat_eq r s.index ≡ false = grind (arith, nat_tests) in
          ap (λ b. if nat_eq (owner s).index p then joined (tally_after b (t s) h) (all_of qs with_point) else all_of qs with_point) no
          ∙ ap (λ x. if nat_eq (owner s).index p then joined (t s) x else x) (hit qs q (AllPairs-rest (λ (a : Rank) (b : Rank). a.index < b.index) s qs rising) later is)
          ∙ later_hit (nat_eq (owner s).index p) (nat_eq (owner q).index p) (t s) (all_of qs t)
    ]

module _ (m : Map) (roots : List (Option ℕ)) where
  abbrev tally_below : ℕ → Rank → Tally
  tally_below n q = tally_of m (rooted_below roots q.index n)

  rooted_more : (q : Rank) (n : ℕ) → tally_below (n + 1) q ≡ tally_after (names (get_or roots n None) q.index) (tally_below n q) (edge_at m n)
  rooted_more q n =
      ap (λ ks. tally_of m (filter (λ k. names (get_or roots k None) q.index) ks)) (counting_more n)
      ∙ ap (tally_of m) (filter-append (λ k. names (get_or roots k None) q.index) (range_with_len 0 n) (n ∷ []))
      ∙ sym (tally_step m (names (get_or roots n None) q.index) (rooted_below roots q.index n) n)

  after_points : (b : Bool) (t : Tally) (h : Option ℤ) (q : Rank) (n : ℕ) → n < length roots → names (get_or roots n None) q.index ≡ b
      → points_of (take n roots) q.index ≡ t.points → points_of (take (n + 1) roots) q.index ≡ (tally_after b t h).points
  after_points true t h q n below is so = count_by_more_yes (λ root. names root q.index) roots n None below is ∙ ap (λ k. k + 1) so
  after_points false t h q n below is so = count_by_more_no (λ root. names root q.index) roots n None below is ∙ so

  counted_below : (q : Rank) (n : ℕ) → n ≤ length roots → points_of (take n roots) q.index ≡ (tally_below n q).points
  counted_below q zero within = refl
  counted_below q (suc n) within =
      let one : n + 1 ≡ suc n = omega arith in
      subst (λ k. points_of (take k roots) q.index ≡ (tally_below k q).points) one
      (after_points (names (get_or roots n None) q.index) (tally_below n q) (edge_at m n) q n (omega (arith, within)) refl (counted_below q n (omega (arith, within)))
      ∙ sym (ap (λ (t : Tally). t.points) (rooted_more q n)))

  -- the number of the points with a root is that of the tally
  pub points_rooted : (q : Rank) → length roots ≡ cell_count m.size → points_of roots q.index ≡ (region_tally m roots q).points
  points_rooted q long =
      ap (λ xs. points_of xs q.index) (sym (take_all (cell_count m.size) roots (omega (arith, long)))) ∙ counted_below q (cell_count m.size) (omega (arith, long))

module _ (m : Map) (side : SideName) (whole : IsMap m) (roots : List (Option ℕ)) (regions : AreRegions m side roots) (pits : List Rank) (are : ArePits m side pits) (owner : Rank → Rank) (p : ℕ) where
  owned_more : (n : ℕ) → tally_of m (owned_below m owner roots p (n + 1)) ≡ tally_after (owns m owner p (get_or roots n None)) (tally_of m (owned_below m owner roots p n)) (edge_at m n)
  owned_more n =
      ap (λ ks. tally_of m (filter (λ k. owns m owner p (get_or roots k None)) ks)) (counting_more n)
      ∙ ap (tally_of m) (filter-append (λ k. owns m owner p (get_or roots k None)) (range_with_len 0 n) (n ∷ []))
      ∙ sym (tally_step m (owns m owner p (get_or roots n None)) (owned_below m owner roots p n) n)

  -- one more point
  point_more : (n : ℕ) (o : Option ℕ) → get_or roots n None ≡ o → n < length roots → (t : Rank → Tally) (h : Option ℤ)
      → all_of owner p pits (λ q. tally_after (names o q.index) (t q) h) ≡ tally_after (owns m owner p o) (all_of owner p pits t) h
  point_more n None is below t h = refl
  point_more n (Some r) is below t h =
      let root = root_pit m side roots whole regions n r below is in
      let there : Contains pits root.0 = (are.exactly root.0).1 root.1 in
      let itself : root.0 ≡ rank_at m r = pit_rank m side root.0 root.1 ∙ ap (rank_at m) root.2 in
      hit owner p t h r pits root.0 are.in_order there root.2
      ∙ ap (λ (x : Rank). tally_after (nat_eq (owner x).index p) (all_of owner p pits t) h) itself

  owned_below-is : (n : ℕ) → n ≤ cell_count m.size → all_of owner p pits (tally_below m roots n) ≡ tally_of m (owned_below m owner roots p n)
  owned_below-is zero within = none_of owner p pits
  owned_below-is (suc n) within =
      let one : n + 1 ≡ suc n = omega arith in
      let below : n < length roots = subst (λ k. n < k) (sym regions.whole) (omega (arith, within)) in
      subst (λ k. all_of owner p pits (tally_below m roots k) ≡ tally_of m (owned_below m owner roots p k)) one
      (ap (joined_of (is_owned p) (owned_by owner pits)) (map_same (tally_below m roots (n + 1))
      (λ q. tally_after (names (get_or roots n None) q.index) (tally_below m roots n q) (edge_at m n)) pits (λ q. rooted_more m roots q n))
      ∙ point_more n (get_or roots n None) refl below (tally_below m roots n) (edge_at m n)
      ∙ ap (λ x. tally_after (owns m owner p (get_or roots n None)) x (edge_at m n)) (owned_below-is n (omega (arith, within)))
      ∙ sym (owned_more n))

  -- the tallies of the regions that a kept pit owns are together the tally of what it owns
  pub owned_tally : joined_of (is_owned p) (owned_by owner pits) (map (region_tally m roots) pits) ≡ tally_of m (owned_points m owner roots p)
  owned_tally = owned_below-is (cell_count m.size) (omega arith)

-- no more points are owned than there are
pub owned_few : (m : Map) (owner : Rank → Rank) (roots : List (Option ℕ)) (p : ℕ) → length (owned_points m owner roots p) ≤ cell_count m.size
owned_few m owner roots p =
    let test : ℕ → Bool = λ k. owns m owner p (get_or roots k None) in
    let ks = range_with_len 0 (cell_count m.size) in
    omega (arith, length-filter test ks, count_by-le-length test ks, length-range_with_len 0 (cell_count m.size))
