-- The points round a point, and those of them that are below it.
use Rattle.std.proofs.Common.{◌≡◌, ◌<◌, ◌+◌, ◌++◌, ℕ, zero, suc, Bool, true, false, List, [], ◌∷◌, inl, inr, ap, ◌∙◌, sym, subst, refl, arith}
use Rattle.std.specs.Prelude.{Contains}
use Rattle.std.proofs.lemmas.Bool.{cases_eq, and_parts}
use Rattle.hd_map.specs.declared.types.Adjacency.{Adjacency}
use Rattle.hd_map.specs.declared.types.Adjacency.TheVariants.{Four, Six, Eight}
use Rattle.hd_map.specs.declared.types.Pos.{Pos}
use Rattle.hd_map.specs.declared.types.Rank.{Rank}
use Rattle.hd_map.specs.declared.types.SideName.{SideName}
use Rattle.hd_map.specs.Map.{Map, IsMap, Present}
use Rattle.hd_map.specs.Neighbour.{Neighbour, IsNear, AreBesideUnder}
use Rattle.hd_map.specs.Order.{IsNotAbove}
use Rattle.hd_map.specs.Path.{Leads}
use Rattle.hd_map.specs.Rank.{rank, below_by, IsPoint}
use Rattle.hd_map.specs.Region.{LowerNeighbour, IsNext}
use Rattle.hd_map.specs.SideLaws.{below_by-order}
use Rattle.hd_map.proofs.Gather.{same_pos}
use Rattle.hd_map.proofs.Points.{same_point}
use Rattle.hd_map.proofs.Depth.{point_limits}
use Rattle.hd_map.proofs.Saddles.{near-sym}
use Rattle.hd_map.proofs.Settings.{beside-eight}
use Rattle.hd_map.proofs.Order.{below-not_above}
use Rattle.hd_steep.specs.Lowest.{missing, IsChosen, IsLow, IsAtPlace}
use Rattle.hd_steep.specs.Rows.{rank_in, IsRowOf}
use Rattle.hd_steep.specs.Ring.{ring_of, are_lower, is_marked, firsts_of, taken_of, marks_of, IsOneAtMost}
use Rattle.hd_steep.specs.declared.descent.Descent.{Descent}
use Rattle.hd_steep.specs.Crossed.{AreBeside}
use Rattle.hd_steep.specs.Descended.{descent_to}
use Rattle.hd_steep.specs.Descents.{IsReached}
use Rattle.hd_steep.proofs.Lows.{low_missing, below_missing}
use Rattle.hd_steep.proofs.Marks.{lowest_marked}
use Rattle.hd_steep.proofs.Rows.{row_place}
use Rattle.hd_steep.proofs.Taken.{StandsAt, taken_marked, taken_eight, taken_beside, beside_taken}
use Rattle.hd_steep.proofs.Ring.{column_of, profile_of, are_close, AreClose, close_from_test, close_middle, leads_first}

-- numbers that are near after a shift are near
near_shifted : (x a b u v : ℕ) → u + 1 ≡ x + a → v + 1 ≡ x + b → IsNear a b → IsNear u v
near_shifted x a b u v e f near = (omega (arith, e, f, near.0), omega (arith, e, f, near.1))

module _ (m : Map) (side : SideName) where
  -- two points at places that are beside each other are neighbours
  neighbours_at : (y x i j : ℕ) (u v : Pos) → AreClose i j → IsAtPlace (y + profile_of i) (x + column_of i) u → IsAtPlace (y + profile_of j) (x + column_of j) v
      → Present m u → Present m v → AreBesideUnder m.adjacency u v → Neighbour m u v
  neighbours_at y x i j u v close one other here there beside = record {
    from = here;
    to = there;
    columns = near_shifted x (column_of i) (column_of j) u.x v.x one.place other.place close.columns;
    rows = near_shifted y (profile_of i) (profile_of j) u.y v.y one.profile other.profile close.profiles;
    different = λ e.
        let ex : u.x ≡ v.x = ap (λ (p : Pos). p.x) e in
        let ey : u.y ≡ v.y = ap (λ (p : Pos). p.y) e in
        close.different (let a = one.place in let b = other.place in omega (arith, ex, a, b)) (let a = one.profile in let b = other.profile in omega (arith, ey, a, b));
    beside = beside;
  }

  -- a way round x, and further
  leads_on : (x a b c : Rank) (ys zs : List Rank) → Leads (AreBeside m side x) a ys b → Leads (AreBeside m side x) b zs c → Leads (AreBeside m side x) a (ys ++ zs) c
  leads_on x a b c [] zs one other = subst (λ (r : Rank). Leads (AreBeside m side x) r zs c) (sym one) other
  leads_on x a b c (y ∷ ys) zs one other = (one.0, leads_on x y b c ys zs one.1 other)

  -- and back
  leads_back : (x a b : Rank) (ys : List Rank) → Leads (AreBeside m side x) a ys b → (zs : List Rank) × Leads (AreBeside m side x) b zs a
  leads_back x a b [] leads = ([], sym leads)
  leads_back x a b (y ∷ ys) leads =
      let one = leads.0 in
      let back : AreBeside m side x y a = record { from = one.to; to = one.from; near = near-sym m a y one.near } in
      let rest = leads_back x y b ys leads.1 in
      (rest.0 ++ a ∷ [], leads_on x b y a rest.0 (a ∷ []) rest.1 (back, refl))

  module _ (whole : IsMap m) where
    -- the rank at a place where a point is present is the rank of that point
    rank_at_place : (r c : ℕ) (w : Rank) (q : Pos) → IsLow m side (IsAtPlace r c) w → IsAtPlace r c q → Present m q → w ≡ rank m q
    rank_at_place r c w q low at here = elim low.origin [
      | inl none ↦ absurd (low_missing m side whole (IsAtPlace r c) w low none q at here)
      | inr one ↦
          let there = one.chosen in
          let same : one.at ≡ q = same_pos one.at q (let a = there.place in let b = at.place in omega (arith, a, b)) (let a = there.profile in let b = at.profile in omega (arith, a, b)) in
          one.low_is ∙ ap (rank m) same
    ]

    -- a rank that is below a point is that of a point
    chosen_below : (P : Pos → Type 0) (w own : Rank) → IsPoint m own → IsLow m side P w → below_by side w own ≡ true → IsChosen m P w
    chosen_below P w own point low below = elim low.origin [
      | inl none ↦ absurd (
          let above : below_by side own (missing side) ≡ true = below_missing side own (point_limits m own whole point) in
          let not : below_by side (missing side) own ≡ false = below-not_above (below_by side) (below_by-order side) own (missing side) above in
          let is : below_by side (missing side) own ≡ true = subst (λ (r : Rank). below_by side r own ≡ true) none below in
          cc)
      | inr one ↦ one
    ]

    module _ (above level below : List Rank) (x y : ℕ) (inside : x < m.size.points) (upper : IsRowOf m side y above) (middle : IsRowOf m side (y + 1) level)
        (lower : IsRowOf m side (y + 2) below) where
      abbrev ring : List Rank
      ring = ring_of above level below x

      abbrev pub own : Rank
      own = rank_in level (x + 1)

      abbrev marks : List Bool
      marks = are_lower side own ring

      -- the rank in the middle
      pub own_low : IsLow m side (IsAtPlace (y + 1) (x + 1)) own
      own_low = row_place m side (y + 1) level (x + 1) middle (omega (arith, inside))

      -- places counted from none
      at_none : (r c : ℕ) (w : Rank) → IsLow m side (IsAtPlace r c) w → IsLow m side (IsAtPlace (r + 0) c) w
      at_none r c w low = let e : r + 0 ≡ r = omega arith in subst (λ i. IsLow m side (IsAtPlace i c) w) (sym e) low

      left_none : (r c : ℕ) (w : Rank) → IsLow m side (IsAtPlace r c) w → IsLow m side (IsAtPlace r (c + 0)) w
      left_none r c w low = let e : c + 0 ≡ c = omega arith in subst (λ i. IsLow m side (IsAtPlace r i) w) (sym e) low

      -- the rank at each place
      ring_low : (k : ℕ) → k < 8 → IsLow m side (IsAtPlace (y + profile_of k) (x + column_of k)) (rank_in ring k)
      ring_low zero b = at_none y (x + 1) (rank_in above (x + 1)) (row_place m side y above (x + 1) upper (omega (arith, inside)))
      ring_low (suc zero) b = at_none y (x + 2) (rank_in above (x + 2)) (row_place m side y above (x + 2) upper (omega (arith, inside)))
      ring_low (suc (suc zero)) b = row_place m side (y + 1) level (x + 2) middle (omega (arith, inside))
      ring_low (suc (suc (suc zero))) b = row_place m side (y + 2) below (x + 2) lower (omega (arith, inside))
      ring_low (suc (suc (suc (suc zero)))) b = row_place m side (y + 2) below (x + 1) lower (omega (arith, inside))
      ring_low (suc (suc (suc (suc (suc zero))))) b = left_none (y + 2) x (rank_in below x) (row_place m side (y + 2) below x lower (omega (arith, inside)))
      ring_low (suc (suc (suc (suc (suc (suc zero)))))) b = left_none (y + 1) x (rank_in level x) (row_place m side (y + 1) level x middle (omega (arith, inside)))
      ring_low (suc (suc (suc (suc (suc (suc (suc zero))))))) b = left_none (y + 0) x (rank_in above x) (at_none y x (rank_in above x) (row_place m side y above x upper (omega (arith, inside))))
      ring_low (suc (suc (suc (suc (suc (suc (suc (suc k)))))))) b = absurd (omega (arith, b))

      -- a mark tells whether the rank at its place is below the one in the middle
      mark_of : (k : ℕ) → k < 8 → is_marked marks k ≡ below_by side (rank_in ring k) own
      mark_of zero b = refl
      mark_of (suc zero) b = refl
      mark_of (suc (suc zero)) b = refl
      mark_of (suc (suc (suc zero))) b = refl
      mark_of (suc (suc (suc (suc zero)))) b = refl
      mark_of (suc (suc (suc (suc (suc zero))))) b = refl
      mark_of (suc (suc (suc (suc (suc (suc zero)))))) b = refl
      mark_of (suc (suc (suc (suc (suc (suc (suc zero))))))) b = refl
      mark_of (suc (suc (suc (suc (suc (suc (suc (suc k)))))))) b = absurd (omega (arith, b))

      -- only the eight places are marked
      mark_inside : (k : ℕ) → is_marked marks k ≡ true → k < 8
      mark_inside zero h = omega arith
      mark_inside (suc zero) h = omega arith
      mark_inside (suc (suc zero)) h = omega arith
      mark_inside (suc (suc (suc zero))) h = omega arith
      mark_inside (suc (suc (suc (suc zero)))) h = omega arith
      mark_inside (suc (suc (suc (suc (suc zero))))) h = omega arith
      mark_inside (suc (suc (suc (suc (suc (suc zero)))))) h = omega arith
      mark_inside (suc (suc (suc (suc (suc (suc (suc zero))))))) h = omega arith
      mark_inside (suc (suc (suc (suc (suc (suc (suc (suc k)))))))) h = absurd cc

      module _ (at : Pos) (here : Present m at) (column : at.x ≡ x) (profile : at.y ≡ y) where
        -- the point stands in the middle
        at_middle : IsAtPlace (y + 1) (x + 1) at
        at_middle = record { profile = omega (arith, profile); place = omega (arith, column) }

        pub own_is : own ≡ rank m at
        own_is = rank_at_place (y + 1) (x + 1) own at own_low at_middle here

        own_point : IsPoint m own
        own_point = record { at = at; present = here; rank_is = own_is }

        -- the marks that the setting takes
        abbrev pub taken : List Bool
        taken = taken_of m.adjacency marks

        -- the point at a marked place
        marked_at : (k : ℕ) → is_marked marks k ≡ true → IsChosen m (IsAtPlace (y + profile_of k) (x + column_of k)) (rank_in ring k)
        marked_at k h = let b = mark_inside k h in chosen_below (IsAtPlace (y + profile_of k) (x + column_of k)) (rank_in ring k) own own_point (ring_low k b) (sym (mark_of k b) ∙ h)

        -- a position at a place of the ring, from the point itself
        stands_at : (k : ℕ) (q : Pos) → IsAtPlace (y + profile_of k) (x + column_of k) q → StandsAt at q k
        stands_at k q s = record { profile = s.profile ∙ ap (λ (n : ℕ). n + profile_of k) (sym profile); place = s.place ∙ ap (λ (n : ℕ). n + column_of k) (sym column) }

        -- is a lower neighbour, where the setting takes it
        pub marked_lower : (k : ℕ) → is_marked taken k ≡ true → LowerNeighbour m side own (rank_in ring k)
        marked_lower k is_taken =
            let h = taken_marked m.adjacency marks k is_taken in
            let b = mark_inside k h in
            let one = marked_at k h in
            record {
              near = record {
                from = at;
                to = one.at;
                neighbour = neighbours_at y x 8 k at one.at (close_from_test 8 k (close_middle k b)) at_middle one.chosen here one.present
                    (taken_beside at one.at m.adjacency marks k is_taken (stands_at k one.at one.chosen));
                from_rank = own_is;
                to_rank = one.low_is;
              };
              below = sym (mark_of k b) ∙ h;
            }

        -- under 8 two of them at places beside each other are neighbours
        marked_beside : m.adjacency ≡ Eight → (i j : ℕ) → are_close i j ≡ true → is_marked taken i ≡ true → is_marked taken j ≡ true → AreBeside m side own (rank_in ring i) (rank_in ring j)
        marked_beside eight i j close h k =
            let one = marked_at i (taken_marked m.adjacency marks i h) in
            let other = marked_at j (taken_marked m.adjacency marks j k) in
            record {
              from = marked_lower i h;
              to = marked_lower j k;
              near = record {
                from = one.at;
                to = other.at;
                neighbour = neighbours_at y x i j one.at other.at (close_from_test i j close) one.chosen other.chosen one.present other.present (beside-eight m.adjacency one.at other.at eight);
                from_rank = one.low_is;
                to_rank = other.low_is;
              };
            }

        -- the place of a neighbour
        place_round : (q : Pos) → Neighbour m at q → (k : ℕ) × (k < 8) × IsAtPlace (y + profile_of k) (x + column_of k) q
        place_round q n =
            let c = n.columns in
            let r = n.rows in
            let c_at : q.x + 1 ≡ x → q.x + 1 ≡ x + 0 = λ e. omega (arith, e) in
            let at_place : (k : ℕ) → k < 8 → q.y + 1 ≡ y + profile_of k → q.x + 1 ≡ x + column_of k → (k : ℕ) × (k < 8) × IsAtPlace (y + profile_of k) (x + column_of k) q = λ k b e f.
            (k, b, record { profile = e; place = f }) in
            elim (cases_eq (q.y + 1) y) [
              | inl upper' ↦ let up : q.y + 1 ≡ y + 0 = omega (arith, upper') in elim (cases_eq (q.x + 1) x) [
                | inl left ↦ at_place 7 (omega arith) up (c_at left)
                | inr not ↦ elim (cases_eq (q.x + 1) (x + 1)) [
                  | inl mid ↦ at_place 0 (omega arith) up mid
                  | inr not' ↦ at_place 1 (omega arith) up (omega (arith, c, column, not, not'))
                ]
              ]
              | inr under ↦ elim (cases_eq (q.y + 1) (y + 1)) [
                | inl beside ↦ elim (cases_eq (q.x + 1) x) [
                  | inl left ↦ at_place 6 (omega arith) beside (c_at left)
                  | inr not ↦ elim (cases_eq (q.x + 1) (x + 1)) [
                    | inl mid ↦ absurd (n.different (same_pos at q (omega (arith, mid, column)) (omega (arith, beside, profile))))
                    | inr not' ↦ at_place 2 (omega arith) beside (omega (arith, c, column, not, not'))
                  ]
                ]
                | inr other ↦
                    let e : q.y + 1 ≡ y + 2 = omega (arith, r, profile, under, other) in
                    elim (cases_eq (q.x + 1) x) [
                      | inl left ↦ at_place 5 (omega arith) e (c_at left)
                      | inr not ↦ elim (cases_eq (q.x + 1) (x + 1)) [
                        | inl mid ↦ at_place 4 (omega arith) e mid
                        | inr not' ↦ at_place 3 (omega arith) e (omega (arith, c, column, not, not'))
                      ]
                    ]
              ]
            ]

        -- each lower neighbour stands at a marked place that is taken
        pub lower_marked : (z : Rank) → LowerNeighbour m side own z → (k : ℕ) × (is_marked taken k ≡ true) × (rank_in ring k ≡ z)
        lower_marked z low =
            let n = low.near in
            let from : n.from ≡ at = same_point m n.from at n.neighbour.from here (sym n.from_rank ∙ own_is) in
            let beside : Neighbour m at n.to = subst (λ (p : Pos). Neighbour m p n.to) from n.neighbour in
            let found = place_round n.to beside in
            let k = found.0 in
            let is : rank_in ring k ≡ z = rank_at_place (y + profile_of k) (x + column_of k) (rank_in ring k) n.to (ring_low k found.1) found.2 n.neighbour.to ∙ sym n.to_rank in
            (k, beside_taken at n.to m.adjacency marks k found.1 (mark_of k found.1 ∙ ap (λ (r : Rank). below_by side r own) is ∙ low.below) (stands_at k n.to found.2) beside.beside, is)

        -- y leads round the point to z
        abbrev LeadsRound : Rank → Rank → Type 0
        LeadsRound y z = (zs : List Rank) × Leads (AreBeside m side own) y zs z

        round_on : (a b c : Rank) → LeadsRound a b → LeadsRound b c → LeadsRound a c
        round_on a b c one other = (one.0 ++ other.0, leads_on own a b c one.0 other.0 one.1 other.1)

        -- a way from place to place
        abbrev Way : ℕ → ℕ → Type 0
        Way i j = LeadsRound (rank_in ring i) (rank_in ring j)

        way_on : (i j k : ℕ) → Way i j → Way j k → Way i k
        way_on i j k one other = round_on (rank_in ring i) (rank_in ring j) (rank_in ring k) one other

        -- the places at which passes are gathered
        abbrev pub gathered : List Bool
        gathered = marks_of m.adjacency marks

        -- under 8 from each marked place to the first of its group
        to_first_of_eight : m.adjacency ≡ Eight → (k : ℕ) → is_marked marks k ≡ true → (j : ℕ) × (is_marked (firsts_of marks) j ≡ true) × Way k j
        to_first_of_eight eight k h =
            let found = leads_first Way (λ i. ([], refl)) way_on (is_marked marks 0) (is_marked marks 1) (is_marked marks 2) (is_marked marks 3) (is_marked marks 4)
            (is_marked marks 5) (is_marked marks 6) (is_marked marks 7)
            (λ i j close one other. (let b = marked_beside eight i j close (taken_eight m.adjacency marks i eight one) (taken_eight m.adjacency marks j eight other) in
            (rank_in ring j ∷ [], (b, refl)))) k h in
            (found.last, found.is_first, found.along)

        -- from each place that is taken to one at which passes are gathered
        to_first : (k : ℕ) → is_marked taken k ≡ true → (j : ℕ) × (is_marked gathered j ≡ true) × Way k j
        to_first k h = elim m.adjacency as (λ a. m.adjacency ≡ a → is_marked (taken_of a marks) k ≡ true → (j : ℕ) × (is_marked (marks_of a marks) j ≡ true) × Way k j) [
          | Four ↦ λ e is. (k, is, ([], refl))
          | Six ↦ λ e is. (k, is, ([], refl))
          | Eight ↦ λ e is. to_first_of_eight e k is
        ] refl h

        -- the first ones of groups are lower
        first_marked : (k : ℕ) → is_marked (firsts_of marks) k ≡ true → is_marked marks k ≡ true
        first_marked zero h = h
        first_marked (suc zero) h = (and_parts _ _ h).0
        first_marked (suc (suc zero)) h = (and_parts _ _ h).0
        first_marked (suc (suc (suc zero))) h = (and_parts _ _ h).0
        first_marked (suc (suc (suc (suc zero)))) h = (and_parts _ _ h).0
        first_marked (suc (suc (suc (suc (suc zero))))) h = (and_parts _ _ h).0
        first_marked (suc (suc (suc (suc (suc (suc zero)))))) h = (and_parts _ _ h).0
        first_marked (suc (suc (suc (suc (suc (suc (suc zero))))))) h = (and_parts _ _ h).0
        first_marked (suc (suc (suc (suc (suc (suc (suc (suc k)))))))) h = absurd cc

        gathered_taken : (a : Adjacency) (k : ℕ) → is_marked (marks_of a marks) k ≡ true → is_marked (taken_of a marks) k ≡ true
        gathered_taken Four k h = h
        gathered_taken Six k h = h
        gathered_taken Eight k h = first_marked k h

        pub first_lower : (k : ℕ) → is_marked gathered k ≡ true → LowerNeighbour m side own (rank_in ring k)
        first_lower k h = marked_lower k (gathered_taken m.adjacency k h)

        -- each lower neighbour leads round to one of the first ones
        leads_to_first : (z : Rank) → LowerNeighbour m side own z → (k : ℕ) × (is_marked gathered k ≡ true) × LeadsRound z (rank_in ring k)
        leads_to_first z low =
            let at_z = lower_marked z low in
            let found = to_first at_z.0 at_z.1 in
            (found.0, found.1, subst (λ (r : Rank). LeadsRound r (rank_in ring found.0)) at_z.2 found.2)

        -- and where there is one of these at most, to each other one
        leads_to_each : IsOneAtMost gathered → (z w : Rank) → LowerNeighbour m side own z → LowerNeighbour m side own w → LeadsRound z w
        leads_to_each alone z w low low' =
            let one = leads_to_first z low in
            let other = leads_to_first w low' in
            let same : one.0 ≡ other.0 = alone one.0 other.0 one.1 other.1 in
            let back = leads_back own w (rank_in ring other.0) other.2.0 other.2.1 in
            round_on z (rank_in ring other.0) w (subst (λ i. LeadsRound z (rank_in ring i)) same one.2) back

        -- where there is a lower neighbour, one of them is the next
        next_round : (z : Rank) → LowerNeighbour m side own z → (q : Rank) × IsNext m side own q
        next_round z low =
            let one = lower_marked z low in
            let found = lowest_marked (below_by side) (below_by-order side) (rank_in ring) taken 8 one.0 one.1 in (
              rank_in ring found.0,
              record {
                lower = marked_lower found.0 found.1.marked;
                lowest = λ r lower.
                    let other = lower_marked r lower in
                    let inside = mark_inside other.0 (taken_marked m.adjacency marks other.0 other.1) in
                    subst (λ (q : Rank). IsNotAbove (below_by side) (rank_in ring found.0) q) other.2 (found.1.lowest other.0 inside other.1);
              },
            )

        -- where descents lead to the first ones, all lower neighbours are reached
        pub reached_first : (descents : List Descent) → ((k : ℕ) → is_marked gathered k ≡ true → Contains descents (descent_to own.index (rank_in ring k).index))
            → (z : Rank) → LowerNeighbour m side own z → IsReached m side descents own z
        reached_first descents listed z low =
            let found = leads_to_first z low in
            record { last = rank_in ring found.0; way = found.2.0; along = found.2.1; by = inr (listed found.0 found.1) }

        -- and where there is one at most
        pub reached_alone : (descents : List Descent) → IsOneAtMost gathered → (z : Rank) → LowerNeighbour m side own z → IsReached m side descents own z
        reached_alone descents alone z low =
            let next = next_round z low in
            let onward = leads_to_each alone z next.0 low next.1.lower in
            record { last = next.0; way = onward.0; along = onward.1; by = inl next.1 }
