-- The ranks round a point, compared with it by heights alone.
use Rattle.std.proofs.Common.{◌≡◌, ◌<◌, ◌+◌, ℕ, List, inl, inr, ap, ◌∙◌, sym, refl, arith}
use Rattle.std.proofs.lemmas.Int.{ints}
use Rattle.std.proofs.lemmas.Bool.Decides.{nat_tests}
use Rattle.hd_map.specs.declared.types.Pos.{Pos}
use Rattle.hd_map.specs.declared.types.Rank.{Rank}
use Rattle.hd_map.specs.declared.types.SideName.{SideName}
use Rattle.hd_map.specs.declared.types.SideName.TheVariants.{Dales, Hills}
use Rattle.hd_map.specs.Map.{Map, IsMap, Present, place_of}
use Rattle.hd_map.specs.Rank.{rank, below_by}
use Rattle.hd_steep.specs.Lowest.{earlier_below, later_below, IsLow, IsAtPlace}
use Rattle.hd_steep.specs.Ring.{ring_of, are_lower, are_lower_heights}
use Rattle.hd_steep.specs.Rows.{rank_in, IsRowOf}
use Rattle.hd_steep.proofs.Lows.{place_above, place_before, point_apart}
use Rattle.hd_steep.proofs.Rows.{row_place}

-- of two ranks that at one height come in the order of their indexes, heights alone tell whether the first is below
earlier-is : (side : SideName) (a b : Rank) → (a.height ≡ b.height → a.index < b.index) → earlier_below side a b ≡ below_by side a b
earlier-is Dales a b ordered = grind (arith, ints, nat_tests)
earlier-is Hills a b ordered = grind (arith, ints, nat_tests)

-- and whether the second is
later-is : (side : SideName) (a b : Rank) → (a.height ≡ b.height → b.index < a.index) → later_below side a b ≡ below_by side a b
later-is Dales a b ordered = grind (arith, ints, nat_tests)
later-is Hills a b ordered = grind (arith, ints, nat_tests)

module _ (m : Map) (side : SideName) (whole : IsMap m) (at : Pos) (here : Present m at) (r c : ℕ) (w : Rank) (low : IsLow m side (IsAtPlace r c) w) where
  -- where the rank at a place has the height of a point, it is that of a point
  rank_level : w.height ≡ (rank m at).height → (q : Pos) × IsAtPlace r c q × Present m q × (w.index ≡ place_of m.size q)
  rank_level same = elim low.origin [
    | inl none ↦ absurd (point_apart m side whole (rank m at) at here refl (sym same ∙ ap (λ (x : Rank). x.height) none))
    | inr one ↦ (one.at, one.chosen, one.present, ap (λ (x : Rank). x.index) one.low_is)
  ]

  -- the rank at a place before that of a point
  rank_before : ((q : Pos) → IsAtPlace r c q → Present m q → place_of m.size q < place_of m.size at) → earlier_below side w (rank m at) ≡ below_by side w (rank m at)
  rank_before before = earlier-is side w (rank m at) (λ same. (
      let (q, place, present, index) = rank_level same in
      let less = before q place present in
      omega (arith, less, index)))

  -- and after it
  rank_after : ((q : Pos) → IsAtPlace r c q → Present m q → place_of m.size at < place_of m.size q) → later_below side w (rank m at) ≡ below_by side w (rank m at)
  rank_after after = later-is side w (rank m at) (λ same. (
      let (q, place, present, index) = rank_level same in
      let more = after q place present in
      omega (arith, more, index)))

module _ (m : Map) (side : SideName) (whole : IsMap m) (at : Pos) (here : Present m at) (above level below : List Rank)
    (upper : IsRowOf m side at.y above) (middle : IsRowOf m side (at.y + 1) level) (lower : IsRowOf m side (at.y + 2) below) where
  -- a place of the row above
  from_above : (c : ℕ) → c < m.size.points + 2 → earlier_below side (rank_in above c) (rank m at) ≡ below_by side (rank_in above c) (rank m at)
  from_above c inside = rank_before m side whole at here at.y c (rank_in above c) (row_place m side at.y above c upper inside)
      (λ q there present. place_above m.size q at present.in_grid.column (let p = there.profile in omega (arith, p)))

  -- the place to the left
  from_left : earlier_below side (rank_in level at.x) (rank m at) ≡ below_by side (rank_in level at.x) (rank m at)
  from_left = rank_before m side whole at here (at.y + 1) at.x (rank_in level at.x) (row_place m side (at.y + 1) level at.x middle (let column = here.in_grid.column in omega (arith, column)))
      (λ q there present. place_before m.size q at (let p = there.profile in omega (arith, p)) (let p = there.place in omega (arith, p)))

  -- the place to the right
  from_right : later_below side (rank_in level (at.x + 2)) (rank m at) ≡ below_by side (rank_in level (at.x + 2)) (rank m at)
  from_right = rank_after m side whole at here (at.y + 1) (at.x + 2) (rank_in level (at.x + 2))
      (row_place m side (at.y + 1) level (at.x + 2) middle (let column = here.in_grid.column in omega (arith, column)))
      (λ q there present. place_before m.size at q (let p = there.profile in omega (arith, p)) (let p = there.place in omega (arith, p)))

  -- a place of the row below
  from_below : (c : ℕ) → c < m.size.points + 2 → later_below side (rank_in below c) (rank m at) ≡ below_by side (rank_in below c) (rank m at)
  from_below c inside = rank_after m side whole at here (at.y + 2) c (rank_in below c) (row_place m side (at.y + 2) below c lower inside)
      (λ q there present. place_above m.size at q here.in_grid.column (let p = there.profile in omega (arith, p)))

  -- heights alone tell which of the ranks round a point are below it
  pub heights_tell : are_lower_heights side (rank m at) (ring_of above level below at.x) ≡ are_lower side (rank m at) (ring_of above level below at.x)
  heights_tell =
      let column = here.in_grid.column in
      rw (
        from_above at.x (omega (arith, column)),
        from_above (at.x + 1) (omega (arith, column)),
        from_above (at.x + 2) (omega (arith, column)),
        from_left,
        from_right,
        from_below at.x (omega (arith, column)),
        from_below (at.x + 1) (omega (arith, column)),
        from_below (at.x + 2) (omega (arith, column)),
      ) refl
