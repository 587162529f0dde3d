-- The first links of a profile, from its rows, and those of several profiles.
use Rattle.std.proofs.Common.{◌≡◌, ◌<◌, ◌+◌, ◌*◌, ◌-◌, ℕ, true, List, length, ◌++◌, slice_index, ◌⊎◌, inl, inr, ap, ◌∙◌, sym, subst, refl, arith}
use Rattle.std.specs.Prelude.{is_some}
use Rattle.std.proofs.lemmas.Bool.{cases_eq, cases_lt}
use Rattle.std.proofs.lemmas.List.{get_or_append_left, get_or-append-add, length-append}
use Rattle.hd_map.specs.declared.types.Adjacency.{Adjacency}
use Rattle.hd_map.specs.declared.types.Pos.{Pos}
use Rattle.hd_map.specs.declared.types.Rank.{Rank}
use Rattle.hd_map.specs.declared.types.SideName.{SideName}
use Rattle.hd_map.specs.Encoding.{Encoding, number_in}
use Rattle.hd_map.specs.Map.{Map, IsMap, InGrid, Present, place_of, cell_count}
use Rattle.hd_map.specs.Rank.{rank}
use Rattle.hd_map.proofs.Gather.{same_pos}
use Rattle.hd_map.proofs.Points.{point_at, same_index}
use Rattle.hd_steep.specs.declared.rolling.Rows.{Rows}
use Rattle.hd_steep.specs.FirstLinks.{IsFirst, IsFirstLink, AreFirstLinks, AreFirstLinksFrom}
use Rattle.hd_steep.specs.KeyRows.{AreRowsRound, ranks_of}
use Rattle.hd_steep.specs.Keys.{IsKey, rank_of}
use Rattle.hd_steep.specs.Linked.{AreLinked, IsLinkTo, lowest_above, lowest_at, lowest_below, lowest_of_three}
use Rattle.hd_steep.specs.Links.{no_link}
use Rattle.hd_steep.specs.Lowest.{lower_of, IsLow, IsAtPlace, IsRound, IsRoundIn}
use Rattle.hd_steep.proofs.Following.{no_point_at}
use Rattle.hd_steep.proofs.Keys.{cases_option, key_apart, rank_at_key, rank_of_missing, rank_of_some}
use Rattle.hd_steep.proofs.Lows.{low_missing, low_same, low_join, point_apart, place_above}
use Rattle.hd_steep.proofs.Round.{first-low, found}
use Rattle.hd_steep.proofs.Windows.{low_above, low_below, low_level}

module _ (m : Map) (side : SideName) where
  -- where no point is present, there is no link
  pub link_none : (at : Pos) → InGrid m.size at → (Present m at → ⊥) → IsFirstLink m side (place_of m.size at) no_link
  link_none at in_grid not = record {
    point = λ p point e. absurd (no_point_at m at (place_of m.size at) in_grid not refl p point e);
    none = λ no. refl;
  }

  module _ (whole : IsMap m) where
    -- the lowest round a position, from those of three profiles
    round_low : (x y : ℕ) (above level below : Rank) → IsLow m side (IsRoundIn m.adjacency (record { x = x; y = y }) y) above
        → IsLow m side (IsRoundIn m.adjacency (record { x = x; y = y }) (y + 1)) level
        → IsLow m side (IsRoundIn m.adjacency (record { x = x; y = y }) (y + 2)) below → IsLow m side (IsRound m.adjacency (record { x = x; y = y })) (lower_of side (lower_of side above level) below)
    round_low x y above level below before here after =
        let at : Pos = record { x = x; y = y } in
        let A : Pos → Type 0 = λ q. IsRoundIn m.adjacency at y q in
        let L : Pos → Type 0 = λ q. IsRoundIn m.adjacency at (y + 1) q in
        let B : Pos → Type 0 = λ q. IsRoundIn m.adjacency at (y + 2) q in
        let upper : (i j : ℕ) (p q : Pos) → i < j → IsRoundIn m.adjacency at i p → IsRoundIn m.adjacency at j q → Present m p → place_of m.size p < place_of m.size q = λ i j p q less s t there.
        place_above m.size p q there.in_grid.column (let e = s.profile in let f = t.profile in omega (arith, e, f, less)) in
        let two : IsLow m side (λ q. A q ⊎ L q) (lower_of side above level) = low_join m side whole A L above level (λ p q s t there. upper y (y + 1) p q (omega arith) s t there) before here in
        let three : IsLow m side (λ q. (A q ⊎ L q) ⊎ B q) (lower_of side (lower_of side above level) below) = low_join m side whole (λ q. A q ⊎ L q) B
        (lower_of side above level) below (λ p q s t there. elim s [
          | inl u ↦ upper y (y + 2) p q (omega arith) u t there
          | inr u ↦ upper (y + 1) (y + 2) p q (omega arith) u t there
        ]) two after in
        low_same m side (λ q. (A q ⊎ L q) ⊎ B q) (IsRound m.adjacency at) (lower_of side (lower_of side above level) below)
        (λ q there s. elim s [ inl u ↦ elim u [ inl v ↦ v.round | inr v ↦ v.round ] | inr v ↦ v.round ])
        (λ q there round. elim (cases_eq (q.y + 1) y) [
          | inl e ↦ inl (inl (record { profile = e; round = round }))
          | inr other ↦ elim (cases_eq (q.y + 1) (y + 1)) [
            | inl e ↦ inl (inr (record { profile = e; round = round }))
            | inr other' ↦ inr (record { profile = (let a = round.profile.0 in let b = round.profile.1 in omega (arith, a, b, other, other')); round = round })
          ]
        ])
        three

    -- the link of a present point, from the lowest of it and its neighbours
    pub link_low : (at : Pos) (low : Rank) → Present m at → IsLow m side (IsRound m.adjacency at) low → IsFirstLink m side (place_of m.size at) low.index
    link_low at low here is_low = record {
      point = λ p point e.
          let same : rank m at ≡ p = same_index m (rank m at) p (point_at m at here) point (sym e) in
          record { to = low; first = subst (λ (r : Rank). IsFirst m side r low) same (first-low m side whole at here low is_low); index_is = refl };
      none = λ no. absurd (no (rank m at) (point_at m at here) refl);
    }

    module _ {L : Type 0} (code : Encoding L) where
      -- a key whose rank is that of a point has its index
      index_of_key : (index : ℕ) (key : L) (p : Pos) → Present m p → rank_of code side index key ≡ rank m p → index ≡ place_of m.size p
      index_of_key index key p here is = elim (cases_option (code.shown key)) [
        | inl none ↦ absurd (point_apart m side whole (rank m p) p here refl (ap (λ (r : Rank). r.height) (sym is ∙ rank_of_missing code side index key none)))
        | inr some ↦ sym (rank_of_some code side index key some.0 some.1) ∙ ap (λ (r : Rank). r.index) is
      ]

      -- the link at a column, from the key there and the lowest round it
      link_is : (x y first link : ℕ) (own : L) (low : Rank) → x < m.size.points → y < m.size.profiles → IsKey code own → IsLow m side (IsAtPlace (y + 1) (x + 1)) (rank_of code side first own)
          → IsLow m side (IsRound m.adjacency (record { x = x; y = y })) low → IsLinkTo code side own low link → IsFirstLink m side (y * m.size.points + x) link
      link_is x y first link own low column profile key is_own is_low linked =
          let at : Pos = record { x = x; y = y } in
          let in_grid : InGrid m.size at = record { column = column; profile = profile } in
          let place : IsAtPlace (y + 1) (x + 1) at = record { profile = refl; place = refl } in
          elim (cases_option (code.shown own)) [
            | inl none ↦ subst (IsFirstLink m side (place_of m.size at)) (sym (linked.none none))
                (link_none at in_grid (low_missing m side whole (IsAtPlace (y + 1) (x + 1)) (rank_of code side first own) is_own (rank_of_missing code side first own none) at place))
            | inr some ↦
                let here : Present m at = elim is_own.origin [
                  | inl e ↦ absurd (key_apart code side first own some.0 key some.1 e)
                  | inr one ↦ subst (Present m) (same_pos one.at at (let a = one.chosen.place in omega (arith, a)) (let a = one.chosen.profile in omega (arith, a))) one.present
                ] in
                let to = linked.some (let e : is_some (code.shown own) ≡ true = ap is_some some.1 in e) in
                let chosen = found m side whole at here low is_low in
                let index : link ≡ low.index = index_of_key link to.0 chosen.at chosen.present (to.1 ∙ chosen.low_is) ∙ ap (λ (r : Rank). r.index) (sym chosen.low_is) in
                subst (IsFirstLink m side (place_of m.size at)) (sym index) (link_low at low here is_low)
          ]

      -- the links of a profile, from the rows round it
      pub links_of_rows : (y : ℕ) (adjacency : Adjacency) (rows : Rows L) (links : List ℕ) → y < m.size.profiles → m.adjacency ≡ adjacency → AreRowsRound code side m y rows
          → length links ≡ m.size.points
          → AreLinked code side adjacency rows links → AreFirstLinksFrom m side (y * m.size.points) links
      links_of_rows y adjacency rows links profile is round long linked = λ x within.
          let column : x < m.size.points = omega (arith, within, long) in
          let above = ranks_of code side rows.above in
          let level = ranks_of code side rows.level in
          let below = ranks_of code side rows.below in
          let keys = rows.level.keys.items in
          let wide = round.level.framed.whole in
          let own : IsLow m side (IsAtPlace (y + 1) (x + 1)) (rank_of code side (rows.level.first + (x + 1) - 1) (number_in code keys (x + 1))) =
          subst (IsLow m side (IsAtPlace (y + 1) (x + 1))) (rank_at_key code side rows.level.first keys (x + 1) (omega (arith, column, wide))) (round.level.ranks.each x column) in
          link_is x y (rows.level.first + (x + 1) - 1) (slice_index links x) (number_in code keys (x + 1)) (lowest_at adjacency side above level below x) column profile (round.level.keys (x + 1)) own
          (round_low x y (lowest_above adjacency side above x) (lowest_of_three side level x) (lowest_below adjacency side below x)
          (low_above m side whole y x column above adjacency is round.above.ranks)
          (low_level m side y (y + 1) (omega arith, omega arith) whole level round.level.ranks refl x column)
          (low_below m side whole y x column below adjacency is round.below.ranks))
          (linked x within)

  -- links, and those of the indexes after them
  pub links_append : (first next : ℕ) (links more : List ℕ) → next ≡ first + length links → AreFirstLinksFrom m side first links → AreFirstLinksFrom m side next more
      → AreFirstLinksFrom m side first (links ++ more)
  links_append first next links more e some others = λ k within. elim (cases_lt k (length links)) [
    | inl less ↦ rw (get_or_append_left links more 0 k less) (some k less)
    | inr past ↦
        let j : ℕ = k - length links in
        let at : k ≡ length links + j = omega (arith, past) in
        let below : j < length more = omega (arith, within, past, length-append links more) in
        let here : IsFirstLink m side (next + j) (slice_index more j) = others j below in
        let is : slice_index (links ++ more) k ≡ slice_index more j = ap (λ i. slice_index (links ++ more) i) at ∙ get_or-append-add links more j 0 in
        let index : next + j ≡ first + k = omega (arith, e, at) in
        rw is (subst (λ i. IsFirstLink m side i (slice_index more j)) index here)
  ]

  -- the links of all indexes
  pub links_all : (links : List ℕ) → length links ≡ cell_count m.size → AreFirstLinksFrom m side 0 links → AreFirstLinks m side links
  links_all links long some = record { whole = long; each = λ k within. (let e : 0 + k ≡ k = omega arith in subst (λ i. IsFirstLink m side i (slice_index links k)) e (some k within)) }
