-- Edge points by the nine ranks round them.
use Rattle.std.proofs.Common.{◌≡◌, ◌≤◌, ◌+◌, ◌-◌, ◌*◌, ◌||◌, ℕ, true, false, List, inl, inr, sym, ap, subst, arith}
use Rattle.std.proofs.lemmas.Bool.{cases_eq, cases_lt, or_cases, or_parts}
use Rattle.hd_map.specs.declared.types.Pos.{Pos}
use Rattle.hd_map.specs.declared.types.Rank.{Rank}
use Rattle.hd_map.specs.declared.types.SideName.{SideName}
use Rattle.hd_map.specs.Map.{Map, IsMap, Present}
use Rattle.hd_map.specs.Rank.{rank}
use Rattle.hd_map.proofs.Gather.{same_pos}
use Rattle.hd_steep.specs.Lowest.{missing, IsAtPlace, IsLow}
use Rattle.hd_steep.specs.Rows.{rank_in}
use Rattle.hd_basin.specs.declared.frame.Frame.{Frame}
use Rattle.hd_map.specs.EdgePoint.{IsEdge}
use Rattle.hd_map.proofs.EdgePoint.{edge-absent_beside, edge-on, no_edge}
use Rattle.hd_basin.specs.Frames.{InFrame}
use Rattle.hd_basin.specs.Round.{AreRanks, is_missing, lacks_one}
use Rattle.hd_basin.proofs.AreLinks.{low-absent, told-apart}
use Rattle.hd_basin.proofs.LowRound.{entry-at}

module _ (m : Map) (side : SideName) (whole : IsMap m) (p : Pos) (here : Present m p) where
  -- a place round the point where no point is present
  pub edge-open : (u v : ℕ) → u ≤ 2 → v ≤ 2 → (r : Rank) → IsLow m side (IsAtPlace (p.y + v) (p.x + u)) r → is_missing side r ≡ true → IsEdge m (rank m p)
  edge-open u v narrow low r of e =
      let column = here.in_grid.column in
      let profile = here.in_grid.profile in
      elim (cases_eq (p.x + u) 0) [
        | inl left ↦ edge-on m p here (inl (omega (arith, left)))
        | inr right ↦ elim (cases_eq (p.y + v) 0) [
          | inl top ↦ edge-on m p here (inr (inl (omega (arith, top))))
          | inr down ↦ elim (cases_lt (p.x + u - 1) m.size.points) [
            | inr past ↦ edge-on m p here (inr (inr (inl (omega (arith, past, column, narrow)))))
            | inl inside ↦ elim (cases_lt (p.y + v - 1) m.size.profiles) [
              | inr past ↦ edge-on m p here (inr (inr (inr (omega (arith, past, profile, low)))))
              | inl within ↦ edge-absent_beside m p here (record {
                at = record { x = p.x + u - 1; y = p.y + v - 1 };
                in_grid = record { column = inside; profile = within };
                columns = (omega (arith, right), omega (arith, narrow));
                rows = (omega (arith, down), omega (arith, low));
                absent = low-absent m side whole (p.y + v) (p.x + u) r of e (record { x = p.x + u - 1; y = p.y + v - 1 }) (omega (arith, down)) (omega (arith, right));
              })
            ]
          ]
        ]
      ]

  -- a place where one is
  abbrev AreSeen : ℕ → ℕ → Type 0
  AreSeen u v = (q : Pos) × Present m q × (q.x + 1 ≡ p.x + u) × (q.y + 1 ≡ p.y + v)

  low-seen : (u v : ℕ) (r : Rank) → IsLow m side (IsAtPlace (p.y + v) (p.x + u)) r → is_missing side r ≡ false → AreSeen u v
  low-seen u v r of e = elim of.origin [
    | inl none ↦ absurd (told-apart r.height (missing side).height e (ap (λ (z : Rank). z.height) none))
    | inr one ↦ (one.at, one.present, one.chosen.place, one.chosen.profile)
  ]

  -- where there is one at all nine, it is no edge point
  all-seen : ((u v : ℕ) → u ≤ 2 → v ≤ 2 → AreSeen u v) → IsEdge m (rank m p) → ⊥
  all-seen all edge = no_edge m p here
      (λ border. elim border [
        | inl left ↦ (let q = all 0 1 (omega arith) (omega arith) in let x = q.2 in omega (arith, x, left))
        | inr rest ↦ elim rest [
          | inl top ↦ (let q = all 1 0 (omega arith) (omega arith) in let y = q.3 in omega (arith, y, top))
          | inr rest2 ↦ elim rest2 [
            | inl right ↦ (let q = all 2 1 (omega arith) (omega arith) in let x = q.2 in let inside = q.1.in_grid.column in omega (arith, x, right, inside))
            | inr bottom ↦ (let q = all 1 2 (omega arith) (omega arith) in let y = q.3 in let inside = q.1.in_grid.profile in omega (arith, y, bottom, inside))
          ]
        ]
      ])
      (λ open_side.
      let c = open_side.columns in
      let r = open_side.rows in
      let u : ℕ = open_side.at.x + 1 - p.x in
      let v : ℕ = open_side.at.y + 1 - p.y in
      let q = all u v (omega (arith, c.0, c.1)) (omega (arith, r.0, r.1)) in
      let x = q.2 in
      let y = q.3 in
      open_side.absent (subst (Present m) (same_pos q.0 open_side.at (omega (arith, x, c.0)) (omega (arith, y, r.0))) q.1))
      edge

  module _ (f : Frame) (ranks : List Rank) (are : AreRanks m side f ((f.rows + 2) * (f.columns + 2)) ranks) (within : InFrame f p) where
    abbrev first : ℕ → ℕ
    first v = (p.y - f.top + v) * (f.columns + 2) + (p.x - f.left)

    at-place : (u v k : ℕ) → u ≤ 2 → v ≤ 2 → k ≡ first v + u → IsLow m side (IsAtPlace (p.y + v) (p.x + u)) (rank_in ranks k)
    at-place u v k narrow low e = subst (λ (n : ℕ). IsLow m side (IsAtPlace (p.y + v) (p.x + u)) (rank_in ranks n)) (let h : first v + u ≡ k = sym e in omega (arith, h))
        (entry-at m side whole f ranks are p within u v narrow low)

    -- a row of three of which one is missing
    pub row-open : (v k : ℕ) → v ≤ 2 → k ≡ first v → lacks_one side ranks k ≡ true → IsEdge m (rank m p)
    row-open v k low e some = elim (or_cases (is_missing side (rank_in ranks k) || is_missing side (rank_in ranks (k + 1))) (is_missing side (rank_in ranks (k + 2))) some) [
      | inl two ↦ elim (or_cases (is_missing side (rank_in ranks k)) (is_missing side (rank_in ranks (k + 1))) two) [
        | inl one ↦ edge-open 0 v (omega arith) low (rank_in ranks k) (at-place 0 v k (omega arith) low (omega (arith, e))) one
        | inr one ↦ edge-open 1 v (omega arith) low (rank_in ranks (k + 1)) (at-place 1 v (k + 1) (omega arith) low (omega (arith, e))) one
      ]
      | inr one ↦ edge-open 2 v (omega arith) low (rank_in ranks (k + 2)) (at-place 2 v (k + 2) (omega arith) low (omega (arith, e))) one
    ]

    -- and one of which none is
    row-seen : (v k : ℕ) → v ≤ 2 → k ≡ first v → lacks_one side ranks k ≡ false → (u : ℕ) → u ≤ 2 → AreSeen u v
    row-seen v k low e none u narrow =
        let both = or_parts (is_missing side (rank_in ranks k) || is_missing side (rank_in ranks (k + 1))) (is_missing side (rank_in ranks (k + 2))) none in
        let two = or_parts (is_missing side (rank_in ranks k)) (is_missing side (rank_in ranks (k + 1))) both.0 in
        let at : (j : ℕ) → j ≤ 2 → is_missing side (rank_in ranks (k + j)) ≡ false
        → AreSeen j v = λ j few is. low-seen j v (rank_in ranks (k + j)) (at-place j v (k + j) few low (omega (arith, e))) is in
        elim (cases_eq u 0) [
          | inl zero ↦ subst (λ (j : ℕ). AreSeen j v) (sym zero) (at 0 (omega arith) (subst (λ (n : ℕ). is_missing side (rank_in ranks n) ≡ false) (let h : k ≡ k + 0 = omega arith in h) two.0))
          | inr some ↦ elim (cases_eq u 1) [
            | inl one ↦ subst (λ (j : ℕ). AreSeen j v) (sym one) (at 1 (omega arith) two.1)
            | inr more ↦ subst (λ (j : ℕ). AreSeen j v) (let h : 2 ≡ u = omega (arith, narrow, some, more) in h) (at 2 (omega arith) both.1)
          ]
        ]

    -- where no row of three lacks one, it is no edge point
    pub rows-closed : (i j k : ℕ) → i ≡ first 0 → j ≡ first 1 → k ≡ first 2 → lacks_one side ranks i ≡ false → lacks_one side ranks j ≡ false → lacks_one side ranks k ≡ false → IsEdge m (rank m p) → ⊥
    rows-closed i j k above level below one two three = all-seen (λ u v narrow low. elim (cases_eq v 0) [
      | inl zero ↦ subst (AreSeen u) (sym zero) (row-seen 0 i (omega arith) above one u narrow)
      | inr some ↦ elim (cases_eq v 1) [
        | inl same ↦ subst (AreSeen u) (sym same) (row-seen 1 j (omega arith) level two u narrow)
        | inr more ↦ subst (AreSeen u) (let h : 2 ≡ v = omega (arith, low, some, more) in h) (row-seen 2 k (omega arith) below three u narrow)
      ]
    ])
