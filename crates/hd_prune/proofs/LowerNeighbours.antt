-- The neighbours of a point of a map, and those of them that are below it, in a list.
use Rattle.std.proofs.Common.{◌≡◌, ℕ, zero, suc, ◌<◌, ◌≤◌, ◌+◌, ◌/◌, ◌%◌, ◌⊎◌, inl, inr, Bool, List, [], ◌∷◌, ◌++◌, map, sym, ◌∙◌, subst, arith}
use Rattle.std.specs.Prelude.{Contains, ◌↔◌, filter}
use Rattle.std.proofs.lemmas.Bool.{cases_eq}
use Rattle.hd_map.specs.declared.types.Pos.{Pos}
use Rattle.hd_map.specs.declared.types.Rank.{Rank}
use Rattle.hd_map.specs.declared.types.SideName.{SideName}
use Rattle.hd_map.specs.Map.{Map, Present}
use Rattle.hd_map.specs.Neighbour.{Neighbour}
use Rattle.hd_map.specs.Rank.{below_by, IsPoint, rank}
use Rattle.hd_map.specs.Region.{LowerNeighbour}
use Rattle.hd_map.proofs.Decided.{beside_or_not, in_grid_or_not}
use Rattle.hd_map.proofs.Gather.{Gathered, same_pos, gathered_push, gathered_none, gathered_apart, gathered_centre, gathered_all}
use Rattle.hd_map.proofs.Points.{present_or_not, same_point}
use Rattle.hd_prune.proofs.Lists.{Contains-none, Contains-filter, filter-Contains, Contains-map, map-Contains}

-- a present point whose column and profile are one less than these, or none
shown_before : (m : Map) (x y : ℕ) → ((q : Pos) × (q.x + 1 ≡ x) × (q.y + 1 ≡ y) × Present m q) ⊎ ((q : Pos) → q.x + 1 ≡ x → q.y + 1 ≡ y → Present m q → ⊥)
shown_before m zero y = inr (λ q ex ey there. omega arith)
shown_before m (suc x) zero = inr (λ q ex ey there. omega arith)
shown_before m (suc x) (suc y) =
    let at : Pos = record { x = x; y = y } in
    let same : (q : Pos) → q.x + 1 ≡ suc x → q.y + 1 ≡ suc y → q ≡ at = λ q ex ey. same_pos q at (omega arith) (omega arith) in
    elim (in_grid_or_not m.size at) [
      | inl inside ↦ elim (present_or_not m at inside) [
        | inl there ↦ inl (at, omega arith, omega arith, there)
        | inr not ↦ inr (λ q ex ey there. not (subst (Present m) (same q ex ey) there))
      ]
      | inr outside ↦ inr (λ q ex ey there. outside (subst (Present m) (same q ex ey) there).in_grid)
    ]

module _ (m : Map) (at : Pos) (here : Present m at) where
  -- the neighbours at the first of the nine positions round the point
  gathered : (step : ℕ) → step ≤ 9 → (found : List Pos) × Gathered m at step found
  gathered zero le = (
    [],
    record {
      room = omega arith;
      room_after = λ h. omega arith;
      sound = λ q h. absurd (Contains-none q h);
      complete = λ q n h. absurd (omega (arith, n.columns, n.rows));
      ordered = λ i j d less inside. absurd (omega arith);
    },
  )
  gathered (suc step) le =
      let below : step < 9 = omega arith in
      let before = gathered step (omega arith) in
      let more : (found : List Pos) × Gathered m at (step + 1) found = elim (cases_eq step 4) [
        | inl centre ↦ (before.0, gathered_centre m at step before.0 centre before.1)
        | inr other ↦ elim (shown_before m (at.x + step % 3) (at.y + step / 3)) [
          | inl there ↦ elim (beside_or_not m.adjacency at there.0) [
            | inl beside ↦ (before.0 ++ there.0 ∷ [], gathered_push m at there.0 step before.0 here other below there.1 there.2 there.3 beside before.1)
            | inr apart ↦ (before.0, gathered_apart m at there.0 step before.0 below there.1 there.2 apart before.1)
          ]
          | inr none ↦ (before.0, gathered_none m at step before.0 below none before.1)
        ]
      ] in
      let next : step + 1 ≡ suc step = omega arith in
      subst (λ (k : ℕ). (found : List Pos) × Gathered m at k found) next more

  -- all of them
  neighbours : (found : List Pos) × ((q : Pos) → Contains found q ↔ Neighbour m at q)
  neighbours = let all = gathered 9 (omega arith) in (all.0, λ q. gathered_all m at 9 all.0 (omega arith) all.1 q)

-- those of a point that are below it
pub lower_neighbours : (m : Map) (side : SideName) (s : Rank) → IsPoint m s → (xs : List Rank) × ((q : Rank) → Contains xs q ↔ LowerNeighbour m side s q)
lower_neighbours m side s point =
    let near = neighbours m point.at point.present in
    let ranks : List Rank = map (rank m) near.0 in
    let is_lower : Rank → Bool = λ q. below_by side q s in (
      filter is_lower ranks,
      λ q. (
        λ h.
            let kept = Contains-filter is_lower ranks q h in
            let place = Contains-map (rank m) near.0 q kept.0 in
            record {
              near = record { from = point.at; to = place.0; neighbour = (near.1 place.0).0 place.1; from_rank = point.rank_is; to_rank = sym place.2 };
              below = kept.1;
            },
        λ h.
            let from : h.near.from ≡ point.at = same_point m h.near.from point.at h.near.neighbour.from point.present (sym h.near.from_rank ∙ point.rank_is) in
            let there : Contains near.0 h.near.to = (near.1 h.near.to).1 (subst (λ (p : Pos). Neighbour m p h.near.to) from h.near.neighbour) in
            filter-Contains is_lower ranks q (subst (Contains ranks) (sym h.near.to_rank) (map-Contains (rank m) near.0 h.near.to there)) h.below,
      ),
    )
