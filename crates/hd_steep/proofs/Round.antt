-- The lowest of a point and its neighbours is its next, or the point itself where that is a pit.
use Rattle.std.proofs.Common.{◌≡◌, ◌<◌, Bool, true, false, ◌⊎◌, inl, inr, ap, ◌∙◌, sym, subst, refl, arith}
use Rattle.std.proofs.lemmas.Bool.{cases_eq}
use Rattle.hd_map.specs.declared.types.Pos.{Pos}
use Rattle.hd_map.specs.declared.types.Rank.{Rank}
use Rattle.hd_map.specs.declared.types.Size.{Size}
use Rattle.hd_map.specs.declared.types.SideName.{SideName}
use Rattle.hd_map.specs.Map.{Map, IsMap, InGrid, Present, place_of, cell_count}
use Rattle.hd_map.specs.Neighbour.{Neighbour}
use Rattle.hd_map.specs.Order.{IsNotAbove, IsStrictOrder}
use Rattle.hd_map.specs.Rank.{rank, below_by}
use Rattle.hd_map.specs.Region.{LowerNeighbour, IsNext, IsPit}
use Rattle.hd_map.specs.SideLaws.{below_by-order}
use Rattle.hd_map.proofs.Points.{place_inside, same_place, same_point, point_at, Near-at}
use Rattle.hd_map.proofs.Settings.{beside-itself}
use Rattle.hd_steep.specs.Lowest.{IsChosen, IsLow, IsRound}
use Rattle.hd_steep.specs.FirstLinks.{IsFirst}
use Rattle.hd_steep.proofs.Lows.{low_missing}

-- what is not above another one is that one, or below it
pub same_or_below : {V : Type 0} (below : V → V → Bool) (laws : IsStrictOrder below) (a b : V) → IsNotAbove below a b → (a ≡ b) ⊎ (below a b ≡ true)
same_or_below below laws a b not = elim (below a b) as (λ v. below a b ≡ v → (a ≡ b) ⊎ (below a b ≡ true)) [
  | true ↦ λ e. inr e
  | false ↦ λ e. inl (laws.total a b e not)
] refl

module _ (m : Map) (side : SideName) (whole : IsMap m) (at : Pos) (here : Present m at) (low : Rank) (of : IsLow m side (IsRound m.adjacency at) low) where
  -- the point itself is one of those round it
  itself : IsRound m.adjacency at at
  itself = record { column = (omega arith, omega arith); profile = (omega arith, omega arith); beside = beside-itself m.adjacency at }

  -- so there is a lowest one
  pub found : IsChosen m (IsRound m.adjacency at) low
  found = elim of.origin [
    | inl none ↦ absurd (low_missing m side whole (IsRound m.adjacency at) low of none at itself here)
    | inr one ↦ one
  ]

  -- whose index is one of the map
  pub found_inside : low.index < cell_count m.size
  found_inside = rw found.low_is (place_inside m.size found.at found.present.in_grid)

  -- none of the lower neighbours is below it
  none_lower : (r : Rank) → LowerNeighbour m side (rank m at) r → IsNotAbove (below_by side) low r
  none_lower r lower =
      let n = lower.near in
      let from : n.from ≡ at = same_point m n.from at n.neighbour.from here (sym n.from_rank) in
      let round : IsRound m.adjacency at n.to = subst (λ (p : Pos). IsRound m.adjacency p n.to) from
      (record { column = n.neighbour.columns; profile = n.neighbour.rows; beside = n.neighbour.beside }) in
      rw n.to_rank (of.least n.to round n.neighbour.to)

  -- it has the index of the point only if that is a pit
  pub pit_found : low.index ≡ place_of m.size at → (low ≡ rank m at) × IsPit m side (rank m at)
  pit_found e =
      let one = found in
      let same : at ≡ one.at = same_place m.size at one.at here.in_grid one.present.in_grid (sym e ∙ ap (λ (r : Rank). r.index) one.low_is) in
      let is : low ≡ rank m at = one.low_is ∙ ap (rank m) (sym same) in (
        is,
        record {
          point = point_at m at here;
          alone = λ q lower.
              let not : below_by side q (rank m at) ≡ false = subst (λ (r : Rank). IsNotAbove (below_by side) r q) is (none_lower q lower) in
              let below = lower.below in cc;
        },
      )

  -- and is else its next
  pub next_found : (low.index ≡ place_of m.size at → ⊥) → (q : Pos) × Present m q × (low ≡ rank m q) × IsNext m side (rank m at) (rank m q)
  next_found other =
      let one = found in
      let index : low.index ≡ place_of m.size one.at = ap (λ (r : Rank). r.index) one.low_is in
      let beside : Neighbour m at one.at = record {
        from = here;
        to = one.present;
        columns = one.chosen.column;
        rows = one.chosen.profile;
        different = λ e. other (index ∙ ap (place_of m.size) (sym e));
        beside = one.chosen.beside;
      } in
      let below : below_by side low (rank m at) ≡ true = elim (same_or_below (below_by side) (below_by-order side) low (rank m at) (of.least at itself here)) [
        | inl same ↦ absurd (other (ap (λ (r : Rank). r.index) same))
        | inr less ↦ less
      ] in (
        one.at,
        one.present,
        one.low_is,
        record {
          lower = record { near = Near-at m at one.at beside; below = subst (λ (r : Rank). below_by side r (rank m at) ≡ true) one.low_is below };
          lowest = λ r lower. subst (λ (s : Rank). IsNotAbove (below_by side) s r) one.low_is (none_lower r lower);
        },
      )

  -- its next, at the position of its index
  pub next_at : (q : Pos) (s : Size) → s ≡ m.size → (low.index ≡ place_of m.size at → ⊥) → InGrid s q → place_of s q ≡ low.index → Present m q × IsNext m side (rank m at) (rank m q)
  next_at q s size other in_grid place =
      let next = next_found other in
      let inside : InGrid m.size q = subst (λ (t : Size). InGrid t q) size in_grid in
      let places : place_of m.size next.0 ≡ place_of m.size q = ap (λ (r : Rank). r.index) (sym next.2) ∙ sym place ∙ ap (λ (t : Size). place_of t q) size in
      subst (λ (p : Pos). Present m p × IsNext m side (rank m at) (rank m p)) (same_place m.size next.0 q next.1.in_grid inside places) (next.1, next.3)

  -- it comes first from the point
  pub first-low : IsFirst m side (rank m at) low
  first-low = elim (cases_eq low.index (place_of m.size at)) [
    | inl same ↦ inr (pit_found same)
    | inr other ↦ let next = next_found other in inl (subst (IsNext m side (rank m at)) (sym next.2) next.3)
  ]
