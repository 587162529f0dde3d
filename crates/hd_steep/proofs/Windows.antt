-- The windows of the rows above, beside and below a point that its setting takes.
use Rattle.std.proofs.Common.{◌≡◌, ◌<◌, ◌≤◌, ◌+◌, ◌*◌, ℕ, List, ◌⊎◌, inl, inr, subst, arith}
use Rattle.std.proofs.lemmas.Bool.{cases_eq}
use Rattle.hd_map.specs.declared.types.Adjacency.{Adjacency}
use Rattle.hd_map.specs.declared.types.Adjacency.TheVariants.{Four, Six, Eight}
use Rattle.hd_map.specs.declared.types.Pos.{Pos}
use Rattle.hd_map.specs.declared.types.Rank.{Rank}
use Rattle.hd_map.specs.declared.types.SideName.{SideName}
use Rattle.hd_map.specs.Map.{Map, IsMap}
use Rattle.hd_map.specs.Neighbour.{AreBesideUnder}
use Rattle.hd_map.proofs.Settings.{beside-profile, beside-eight}
use Rattle.hd_steep.specs.Linked.{lower_of_two, lowest_above, lowest_below, lowest_of_three}
use Rattle.hd_steep.specs.Lowest.{IsAtPlace, IsLow, IsRoundIn}
use Rattle.hd_steep.specs.Rows.{rank_in, IsRowOf}
use Rattle.hd_steep.proofs.Lows.{low_same}
use Rattle.hd_steep.proofs.Rows.{row_place, two_low, three_low}

-- the row is that of the profile y, or of the one before or after it
abbrev IsRowRound : ℕ → ℕ → Type 0
IsRowRound y row = (row ≤ y + 2) × (y ≤ row)

-- under 6 the places that are beside a point: in the row above it its own and the one before, in the row below its
-- own and the one after
six_beside : (x y first : ℕ) (q : Pos) → first ≤ 1 → q.y + 1 ≡ y + 2 * first → (q.x + 1 ≡ x + first) ⊎ (q.x + 1 ≡ x + first + 1) → AreBesideUnder Six (record { x = x; y = y }) q
six_beside x y first q few row (inl place) = elim (cases_eq first 0) [
  | inl none ↦ inr (inr (omega (arith, none, place), omega (arith, none, row)))
  | inr one ↦ inl (inl (omega (arith, few, one, place)))
]
six_beside x y first q few row (inr place) = elim (cases_eq first 0) [
  | inl none ↦ inl (inl (omega (arith, none, place)))
  | inr one ↦ inr (inl (omega (arith, few, one, place), omega (arith, few, one, row)))
]

six_place : (x y first : ℕ) (q : Pos) → first ≤ 1 → q.y + 1 ≡ y + 2 * first → x ≤ q.x + 1 → q.x ≤ x + 1 → AreBesideUnder Six (record { x = x; y = y }) q → (q.x + 1 ≡ x + first)
    ⊎ (q.x + 1 ≡ x + first + 1)
six_place x y first q few row low high (inl (inl column)) = elim (cases_eq first 0) [ inl none ↦ inr (omega (arith, none, column)) | inr one ↦ inl (omega (arith, few, one, column)) ]
six_place x y first q few row low high (inl (inr profile)) = absurd (elim (cases_eq first 0) [ inl none ↦ omega (arith, none, row, profile) | inr one ↦ omega (arith, few, one, row, profile) ])
six_place x y first q few row low high (inr (inl after)) = elim (cases_eq first 0) [
  | inl none ↦ absurd (omega (arith, none, row, after))
  | inr one ↦ inr (omega (arith, few, one, high, after))
]
six_place x y first q few row low high (inr (inr earlier)) = elim (cases_eq first 0) [
  | inl none ↦ inl (omega (arith, none, low, earlier))
  | inr one ↦ absurd (omega (arith, few, one, row, earlier))
]

module _ (m : Map) (side : SideName) (y row : ℕ) (round : IsRowRound y row) where
  -- a position at a place of the row that is near and beside is round
  placed : (x k : ℕ) (q : Pos) → x ≤ k → k ≤ x + 2 → IsAtPlace row k q → AreBesideUnder m.adjacency (record { x = x; y = y }) q → IsRoundIn m.adjacency (record { x = x; y = y }) row q
  placed x k q low high at beside =
      let place = at.place in
      let profile = at.profile in
      record {
        profile = profile;
        round = record { column = (omega (arith, place, low, high), omega (arith, place, low, high)); profile = (omega (arith, profile, round), omega (arith, profile, round)); beside = beside };
      }

  -- what is round stands at one of three places
  place_of_round : (x : ℕ) (q : Pos) → IsRoundIn m.adjacency (record { x = x; y = y }) row q → (IsAtPlace row x q ⊎ IsAtPlace row (x + 1) q) ⊎ IsAtPlace row (x + 2) q
  place_of_round x q r = elim (cases_eq (q.x + 1) x) [
    | inl e ↦ inl (inl (record { profile = r.profile; place = e }))
    | inr other ↦ elim (cases_eq (q.x + 1) (x + 1)) [
      | inl e ↦ inl (inr (record { profile = r.profile; place = e }))
      | inr other' ↦ inr (record { profile = r.profile; place = (let a = r.round.column.0 in let b = r.round.column.1 in omega (arith, a, b, other, other')) })
    ]
  ]

  module _ (whole : IsMap m) (ranks : List Rank) (of : IsRowOf m side row ranks) where
    -- where all three are beside the point, the lowest of three
    low_of_three : (x : ℕ) → x < m.size.points → ((q : Pos) → q.y + 1 ≡ row → AreBesideUnder m.adjacency (record { x = x; y = y }) q)
        → IsLow m side (IsRoundIn m.adjacency (record { x = x; y = y }) row) (lowest_of_three side ranks x)
    low_of_three x below beside = low_same m side (λ q. (IsAtPlace row x q ⊎ IsAtPlace row (x + 1) q) ⊎ IsAtPlace row (x + 2) q)
        (IsRoundIn m.adjacency (record { x = x; y = y }) row) (lowest_of_three side ranks x)
        (λ q here s. elim s [
          | inl u ↦ elim u [
            | inl v ↦ placed x x q (omega arith) (omega arith) v (beside q v.profile)
            | inr v ↦ placed x (x + 1) q (omega arith) (omega arith) v (beside q v.profile)
          ]
          | inr v ↦ placed x (x + 2) q (omega arith) (omega arith) v (beside q v.profile)
        ])
        (λ q here r. place_of_round x q r) (three_low m side whole row ranks x of below)

    -- in its own profile all are
    pub low_level : row ≡ y + 1 → (x : ℕ) → x < m.size.points → IsLow m side (IsRoundIn m.adjacency (record { x = x; y = y }) row) (lowest_of_three side ranks x)
    low_level own x below = low_of_three x below (λ q e. beside-profile m.adjacency (record { x = x; y = y }) q (omega (arith, e, own)))

    -- under 8 in each
    low_eight : m.adjacency ≡ Eight → (x : ℕ) → x < m.size.points → IsLow m side (IsRoundIn m.adjacency (record { x = x; y = y }) row) (lowest_of_three side ranks x)
    low_eight eight x below = low_of_three x below (λ q e. beside-eight m.adjacency (record { x = x; y = y }) q eight)

    -- under 4 the one place in the row above or below
    low_four : m.adjacency ≡ Four → (row ≡ y + 1 → ⊥) → (x : ℕ) → x < m.size.points → IsLow m side (IsRoundIn m.adjacency (record { x = x; y = y }) row) (rank_in ranks (x + 1))
    low_four four other x below = low_same m side (λ q. IsAtPlace row (x + 1) q) (IsRoundIn m.adjacency (record { x = x; y = y }) row) (rank_in ranks (x + 1))
        (λ q here at. placed x (x + 1) q (omega arith) (omega arith) at (rw four (inl (let place = at.place in omega (arith, place)))))
        (λ q here r. record {
          profile = r.profile;
          place = (let beside = rw four at r.round.beside in let e = r.profile in elim beside [ inl column ↦ omega (arith, column) | inr profile ↦ absurd (other (omega (arith, e, profile))) ]);
        })
        (row_place m side row ranks (x + 1) of (omega (arith, below)))

    -- under 6 the lower of two, in the row above from the place before the own one, in the row below from the own one
    low_six : m.adjacency ≡ Six → (first : ℕ) → first ≤ 1 → row ≡ y + 2 * first → (x : ℕ) → x < m.size.points
        → IsLow m side (IsRoundIn m.adjacency (record { x = x; y = y }) row) (lower_of_two side ranks (x + first))
    low_six six first few own x below = low_same m side (λ q. IsAtPlace row (x + first) q ⊎ IsAtPlace row (x + first + 1) q) (IsRoundIn m.adjacency (record { x = x; y = y }) row)
        (lower_of_two side ranks (x + first))
        (λ q here s. elim s [
          | inl at ↦ placed x (x + first) q (omega arith) (omega (arith, few)) at (rw six (six_beside x y first q few (let e = at.profile in omega (arith, e, own)) (inl at.place)))
          | inr at ↦ placed x (x + first + 1) q (omega arith) (omega (arith, few)) at (rw six (six_beside x y first q few (let e = at.profile in omega (arith, e, own)) (inr at.place)))
        ])
        (λ q here r.
        let column = r.round.column in
        let beside : AreBesideUnder Six (record { x = x; y = y }) q = rw six at r.round.beside in
        elim (six_place x y first q few (let e = r.profile in omega (arith, e, own)) (omega (arith, column)) (omega (arith, column)) beside) [
          | inl place ↦ inl (record { profile = r.profile; place = place })
          | inr place ↦ inr (record { profile = r.profile; place = place })
        ])
        (two_low m side whole row ranks (x + first) of (omega (arith, below, few)))

module _ (m : Map) (side : SideName) (whole : IsMap m) (y x : ℕ) (below : x < m.size.points) (ranks : List Rank) where
  -- the lowest of the row above that are beside the point
  pub low_above : (adjacency : Adjacency) → m.adjacency ≡ adjacency → IsRowOf m side y ranks → IsLow m side (IsRoundIn m.adjacency (record { x = x; y = y }) y) (lowest_above adjacency side ranks x)
  low_above Four is of = low_four m side y y (omega arith, omega arith) whole ranks of is (λ e. omega (arith, e)) x below
  low_above Six is of =
      subst (λ k. IsLow m side (IsRoundIn m.adjacency (record { x = x; y = y }) y) (lower_of_two side ranks k)) (let e : x + 0 ≡ x = omega arith in e)
      (low_six m side y y (omega arith, omega arith) whole ranks of is 0 (omega arith) (omega arith) x below)
  low_above Eight is of = low_eight m side y y (omega arith, omega arith) whole ranks of is x below

  -- and of the row below it
  pub low_below : (adjacency : Adjacency) → m.adjacency ≡ adjacency → IsRowOf m side (y + 2) ranks
      → IsLow m side (IsRoundIn m.adjacency (record { x = x; y = y }) (y + 2)) (lowest_below adjacency side ranks x)
  low_below Four is of = low_four m side y (y + 2) (omega arith, omega arith) whole ranks of is (λ e. omega (arith, e)) x below
  low_below Six is of = low_six m side y (y + 2) (omega arith, omega arith) whole ranks of is 1 (omega arith) (omega arith) x below
  low_below Eight is of = low_eight m side y (y + 2) (omega arith, omega arith) whole ranks of is x below
