-- Keys that stand for heights, at places where points are present.
use Rattle.std.proofs.Common.{◌≡◌, ◌<◌, ◌+◌, ◌-◌, ℕ, ℤ, pos, negsuc, neg_ℤ, true, Option, Some, None, refl, ap, sym, subst, ◌∙◌, inl, inr, arith}
use Rattle.std.specs.Prelude.{is_some}
use Rattle.std.proofs.lemmas.Int.{ints}
use Rattle.hd_map.specs.declared.types.Pos.{Pos}
use Rattle.hd_map.specs.declared.types.Rank.{Rank}
use Rattle.hd_map.specs.declared.types.SideName.{SideName}
use Rattle.hd_map.specs.declared.types.SideName.TheVariants.{Dales, Hills}
use Rattle.hd_map.specs.Encoding.{Encoding, number_in}
use Rattle.hd_map.specs.Lanes.{IsBounded}
use Rattle.hd_map.specs.Map.{Map, IsMap, InGrid, Present}
use Rattle.hd_map.specs.Rank.{rank, IsPoint}
use Rattle.hd_map.specs.Ranks.{rank_shown}
use Rattle.hd_map.proofs.Gather.{same_pos}
use Rattle.hd_steep.specs.declared.row.Row.{Row}
use Rattle.hd_steep.specs.KeyRows.{IsKeyRow, ranks_of}
use Rattle.hd_steep.specs.Keys.{most_of_map, on_side, rank_of}
use Rattle.hd_steep.specs.Lowest.{missing, IsAtPlace, IsLow}
use Rattle.hd_steep.specs.Rows.{rank_in}
use Rattle.hd_steep.proofs.Keys.{rank_at_key, rank_of_missing}
use Rattle.hd_steep.proofs.Lows.{low_missing, point_apart}

-- the rank of a height is not the one that stands where no point is present
shown_apart : (side : SideName) (index : ℕ) (value : Option ℤ) → IsBounded most_of_map value → is_some value ≡ true → rank_shown (missing side) index (on_side side value) ≡ missing side → ⊥
shown_apart Dales index None within some same = absurd cc
shown_apart Dales index (Some z) within some same =
    let low = within.least z refl in
    let height : neg_ℤ z ≡ pos 9223372036854775807 = ap (λ (r : Rank). r.height) same in
    omega (arith, ints, low, height)
shown_apart Hills index None within some same = absurd cc
shown_apart Hills index (Some z) within some same =
    let low = within.least z refl in
    let height : z ≡ negsuc 9223372036854775807 = ap (λ (r : Rank). r.height) same in
    omega (arith, ints, low, height)

-- one that is not that one has the index of its place
shown_index : (none : Rank) (index : ℕ) (value : Option ℤ) → (rank_shown none index value ≡ none → ⊥) → (rank_shown none index value).index ≡ index
shown_index none index None apart = absurd (apart refl)
shown_index none index (Some z) apart = refl

module _ (m : Map) (side : SideName) (whole : IsMap m) {L : Type 0} (code : Encoding L) (y : ℕ) (row : Row L) (is : IsKeyRow code side m y row) where
  -- the rank of a place, by its key
  rank_at : (k : ℕ) → k < m.size.points + 2 → rank_in (ranks_of code side row) k ≡ rank_of code side (row.first + k - 1) (number_in code row.keys.items k)
  rank_at k inside = rank_at_key code side row.first row.keys.items k (let w = is.framed.whole in omega (arith, inside, w))

  -- the index of a point at a place of the row
  pub index_at : (k : ℕ) → k < m.size.points + 2 → IsPoint m (rank_in (ranks_of code side row) k) → (rank_in (ranks_of code side row) k).index ≡ row.first + k - 1
  index_at k inside point =
      let at = rank_at k inside in
      ap (λ (r : Rank). r.index) at ∙ shown_index (missing side) (row.first + k - 1) (on_side side (code.shown (number_in code row.keys.items k))) (λ none. (
      let here : rank_in (ranks_of code side row) k ≡ missing side = at ∙ none in
      point_apart m side whole (rank_in (ranks_of code side row) k) point.at point.present point.rank_is (ap (λ (r : Rank). r.height) here)))

  module _ (at : Pos) (inside : InGrid m.size at) (profile : at.y + 1 ≡ y) where
    -- the rank in the column of a position
    low_at : IsLow m side (IsAtPlace y (at.x + 1)) (rank_in (ranks_of code side row) (at.x + 1))
    low_at = is.ranks.each at.x inside.column

    -- where a key is shown, a point is present
    pub shown_present : is_some (code.shown (number_in code row.keys.items (at.x + 1))) ≡ true → Present m at
    shown_present shown = elim low_at.origin [
      | inl none ↦ absurd (shown_apart side (row.first + (at.x + 1) - 1) (code.shown (number_in code row.keys.items (at.x + 1))) (is.keys (at.x + 1)).limits shown
          (sym (rank_at (at.x + 1) (let column = inside.column in omega (arith, column))) ∙ none))
      | inr one ↦
          let there = one.chosen in
          let same : one.at ≡ at = same_pos one.at at (let p = there.place in omega (arith, p)) (let p = there.profile in omega (arith, p, profile)) in
          subst (Present m) same one.present
    ]

    -- and where none is, none
    pub none_absent : code.shown (number_in code row.keys.items (at.x + 1)) ≡ None → Present m at → ⊥
    none_absent none here = low_missing m side whole (IsAtPlace y (at.x + 1)) (rank_in (ranks_of code side row) (at.x + 1)) low_at
        (rank_at (at.x + 1) (let column = inside.column in omega (arith, column)) ∙ rank_of_missing code side (row.first + (at.x + 1) - 1) (number_in code row.keys.items (at.x + 1)) none)
        at (record { profile = profile; place = refl }) here

    -- so where one is present, the key is shown
    pub present_shown : Present m at → is_some (code.shown (number_in code row.keys.items (at.x + 1))) ≡ true
    present_shown here = elim (code.shown (number_in code row.keys.items (at.x + 1))) as (λ value. code.shown (number_in code row.keys.items (at.x + 1)) ≡ value → is_some value ≡ true) [
      | None ↦ λ none. absurd (none_absent none here)
      | Some z ↦ λ some. refl
    ] refl

    -- what stands where one is present is its rank
    pub rank_read : (height : ℤ) → Present m at → on_side side (code.shown (number_in code row.keys.items (at.x + 1))) ≡ Some height
        → (rank m at) ≡ record { height = height; index = row.first + at.x }
    rank_read height here shown =
        let place : at.x + 1 < m.size.points + 2 = (let column = inside.column in omega (arith, column)) in
        let is : rank_in (ranks_of code side row) (at.x + 1) ≡ record { height = height; index = row.first + (at.x + 1) - 1 } = rank_at (at.x + 1) place
        ∙ ap (rank_shown (missing side) (row.first + (at.x + 1) - 1)) shown in
        let index : row.first + (at.x + 1) - 1 ≡ row.first + at.x = omega arith in
        elim low_at.origin [
          | inl none ↦ absurd (low_missing m side whole (IsAtPlace y (at.x + 1)) (rank_in (ranks_of code side row) (at.x + 1)) low_at none at (record { profile = profile; place = refl }) here)
          | inr one ↦
              let there = one.chosen in
              let same : one.at ≡ at = same_pos one.at at (let p = there.place in omega (arith, p)) (let p = there.profile in omega (arith, p, profile)) in
              ap (rank m) (sym same) ∙ sym one.low_is ∙ is ∙ ap (λ i. record { height = height; index = i }) index
        ]
