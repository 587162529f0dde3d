-- Profiles as rows of keys, and three of them that roll over the map.
use borrow.Rule.Slice.PartMut.{put_mid}
use Rattle.std.proofs.Common.{◌≡◌, ◌<◌, ◌≤◌, ◌+◌, ◌-◌, ◌*◌, ◌⊎◌, ◌++◌, ◌∷◌, [], ℕ, List, length, inl, inr, refl, ap, sym, subst, ◌∙◌, arith, rules}
use Rattle.std.proofs.lemmas.Bool.{cases_eq, cases_lt}
use Rattle.std.proofs.Math.Seq.{get_or-append_seam}
use Rattle.std.proofs.lemmas.List.{get_or_append_left, get_or_past, length-append, places}
use Rattle.hd_map.specs.declared.types.Pos.{Pos}
use Rattle.hd_map.specs.declared.types.SideName.{SideName}
use Rattle.hd_map.specs.Encoding.{Encoding, most_filtered, number_in}
use Rattle.hd_map.specs.Lanes.{IsPlainNumber, IsRowOfHeights}
use Rattle.hd_map.specs.Map.{IsMap, Map, height_at, place_of}
use Rattle.hd_map.specs.Ranks.{rank_or}
use Rattle.hd_map.proofs.Lanes.{IsPlainNumber-more, height_near}
use Rattle.hd_steep.specs.declared.rolling.Rows.{Rows}
use Rattle.hd_steep.specs.declared.row.Row.{Row}
use Rattle.hd_steep.specs.KeyRows.{AreFramed, AreKeysOf, AreRowsBefore, AreRowsRound, IsEmpty, IsKeyRow}
use Rattle.hd_steep.specs.Keys.{ArePlain, AreTurned, IsKey, rank_of, ranks_in}
use Rattle.hd_steep.specs.Lowest.{missing, IsLow, IsAtPlace}
use Rattle.hd_steep.specs.Rows.{IsRowOf, rank_in}
use Rattle.hd_steep.proofs.Keys.{missing_key, missing_plain, rank_at_key, rank_of_key, rank_of_missing, ranks_length, turned_key, turned_missing}
use Rattle.hd_steep.proofs.Lows.{low_empty}
use Rattle.hd_steep.proofs.Rows.{rank_low}

module _ {L : Type 0} (code : Encoding L) where
  -- a row of which a stretch is written anew
  mid_inside : (a k i : ℕ) (xs ys : List L) → a + k ≤ length xs → length ys ≡ k → i < k → number_in code (put_mid a k xs ys) (a + i) ≡ number_in code ys i
  mid_inside a k i xs ys room size below = search (rules, places)

  mid_before : (a k i : ℕ) (xs ys : List L) → a + k ≤ length xs → length ys ≡ k → i < a → number_in code (put_mid a k xs ys) i ≡ number_in code xs i
  mid_before a k i xs ys room size below = search (rules, places)

  mid_after : (a k i : ℕ) (xs ys : List L) → a + k ≤ length xs → length ys ≡ k → a + k ≤ i → number_in code (put_mid a k xs ys) i ≡ number_in code xs i
  mid_after a k i xs ys room size above = search (rules, places)

  mid_length : (a k : ℕ) (xs ys : List L) → a + k ≤ length xs → length ys ≡ k → length (put_mid a k xs ys) ≡ length xs
  mid_length a k xs ys room size = search (rules, places)

  -- a row without places, and one with a further one
  pub empty_none : IsEmpty code 0 []
  empty_none = record { whole = refl; none = λ k. refl }

  pub empty_push : (count : ℕ) (keys : List L) → IsEmpty code count keys → IsEmpty code (count + 1) (keys ++ code.missing ∷ [])
  empty_push count keys empty = record {
    whole = length-append keys (code.missing ∷ []) ∙ ap (λ n. n + 1) empty.whole;
    none = λ k. elim (cases_lt k (length keys)) [
      | inl before ↦ get_or_append_left keys (code.missing ∷ []) code.missing k before ∙ empty.none k
      | inr past ↦ elim (cases_eq k (length keys)) [
        | inl same ↦ rw same (get_or-append_seam keys code.missing [] code.missing)
        | inr other ↦ get_or_past (keys ++ code.missing ∷ []) k code.missing (omega (arith, past, other, length-append keys (code.missing ∷ [])))
      ]
    ];
  }

  -- a row in which no point is present has an empty place on each side
  pub empty_framed : (points : ℕ) (keys : List L) → IsEmpty code (points + 2) keys → AreFramed code points keys
  empty_framed points keys empty = record { whole = empty.whole; left = empty.none 0; right = empty.none (points + 1) }

  -- a place of a framed row is empty, or lies between the two on its sides
  framed_place : (points : ℕ) (keys : List L) → AreFramed code points keys → (k : ℕ) → (number_in code keys k ≡ code.missing) ⊎ ((j : ℕ) × (j < points) × (k ≡ j + 1))
  framed_place points keys framed k = elim (cases_eq k 0) [
    | inl e ↦ inl (ap (number_in code keys) e ∙ framed.left)
    | inr some ↦ elim (cases_lt k (points + 1)) [
      | inl below ↦ inr (k - 1, omega (arith, some, below), omega (arith, some))
      | inr above ↦ elim (cases_eq k (points + 1)) [
        | inl e ↦ inl (ap (number_in code keys) e ∙ framed.right)
        | inr other ↦ inl (get_or_past keys k code.missing (let w = framed.whole in omega (arith, above, other, w)))
      ]
    ]
  ]

  module _ (m : Map) (y k : ℕ) (old row : List L) (framed : AreFramed code m.size.points old) (columns : k ≡ m.size.points) (heights : IsRowOfHeights code m y row) where
    -- the heights of a profile, written between two empty places
    abbrev written : List L
    written = put_mid 1 k old row

    room : 1 + k ≤ length old
    room = let w = framed.whole in omega (arith, w, columns)

    pub written_framed : AreFramed code m.size.points written
    written_framed =
        let size : length row ≡ k = heights.whole ∙ sym columns in
        record {
          whole = mid_length 1 k old row room size ∙ framed.whole;
          left = mid_before 1 k 0 old row room size (omega arith) ∙ framed.left;
          right = mid_after 1 k (m.size.points + 1) old row room size (omega (arith, columns)) ∙ framed.right;
        }

    written_at : (x : ℕ) → x < m.size.points → number_in code written (x + 1) ≡ number_in code row x
    written_at x below =
        ap (number_in code written) (let e : x + 1 ≡ 1 + x = omega arith in e)
        ∙ mid_inside 1 k x old row room (heights.whole ∙ sym columns) (omega (arith, below, columns))

    -- are plain
    pub written_plain : ArePlain code written
    written_plain i = elim (framed_place m.size.points written written_framed i) [
      | inl none ↦ subst (IsPlainNumber code (most_filtered code)) (sym none) (missing_plain code)
      | inr some ↦
          let at : number_in code written i ≡ number_in code row some.0 = ap (number_in code written) some.2 ∙ written_at some.0 some.1 in
          subst (IsPlainNumber code (most_filtered code)) (sym at) (IsPlainNumber-more code code.most_height (most_filtered code) (number_in code row some.0) (omega arith)
          (heights.each some.0 some.1).plain)
    ]

    -- and become keys
    pub keys_turned : (side : SideName) (keys : List L) → IsMap m → AreTurned code side written keys → AreKeysOf code side m y keys
    keys_turned side keys whole turned = record {
      framed = record {
        whole = turned.whole ∙ written_framed.whole;
        left = turned_missing code side (number_in code written 0) (number_in code keys 0) (turned.each 0) written_framed.left;
        right = turned_missing code side (number_in code written (m.size.points + 1)) (number_in code keys (m.size.points + 1)) (turned.each (m.size.points + 1)) written_framed.right;
      };
      each = λ x below.
          let p : Pos = record { x = x; y = y } in
          turned_key code side (height_at m p) (number_in code written (x + 1)) (number_in code keys (x + 1)) (height_near m p whole)
          (ap code.shown (written_at x below) ∙ (heights.each x below).is) (turned.each (x + 1));
    }

  module _ (side : SideName) (m : Map) where
    -- keys of a framed row
    keys_framed : (y first : ℕ) (keys : List L) → AreFramed code m.size.points keys
        → ((x : ℕ) → x < m.size.points → IsLow m side (IsAtPlace y (x + 1)) (rank_of code side (first + x) (number_in code keys (x + 1))))
        → IsRowOf m side y (ranks_in code side first keys)
    keys_framed y first keys framed each =
        let w = framed.whole in
        let at : (k : ℕ) → k < m.size.points + 2 → rank_in (ranks_in code side first keys) k
        ≡ rank_of code side (first + k - 1) (number_in code keys k) = λ k below. rank_at_key code side first keys k (omega (arith, below, w)) in
        let none : (k : ℕ) → k < m.size.points + 2 → number_in code keys k ≡ code.missing → rank_in (ranks_in code side first keys) k ≡ missing side = λ k below e.
        (at k below ∙ rank_of_missing code side (first + k - 1) (number_in code keys k) (ap code.shown e ∙ code.missing_none)) in
        record {
          framed = record {
            whole = ranks_length code side first keys ∙ w;
            left = none 0 (omega arith) framed.left;
            right = none (m.size.points + 1) (omega arith) framed.right;
          };
          each = λ x below.
              let index : first + (x + 1) - 1 ≡ first + x = omega arith in
              subst (IsLow m side (IsAtPlace y (x + 1))) (sym (at (x + 1) (omega (arith, below)) ∙ ap (λ i. rank_of code side i (number_in code keys (x + 1))) index)) (each x below);
        }

    -- the row of a profile
    pub row_of_keys : (y : ℕ) (row : Row L) → y < m.size.profiles → row.first ≡ y * m.size.points → AreKeysOf code side m y row.keys.items → IsKeyRow code side m (y + 1) row
    row_of_keys y row profile first of =
        let keys = row.keys.items in
        record {
          framed = of.framed;
          first = first ∙ ap (λ i. i * m.size.points) (let e : y ≡ y + 1 - 1 = omega arith in e);
          keys = λ k. elim (framed_place m.size.points keys of.framed k) [
            | inl none ↦ subst (IsKey code) (sym none) (missing_key code)
            | inr some ↦ subst (λ i. IsKey code (number_in code keys i)) (sym some.2) (of.each some.0 some.1).stands
          ];
          ranks = keys_framed (y + 1) row.first keys of.framed (λ x below.
              let p : Pos = record { x = x; y = y } in
              let is : rank_of code side (row.first + x) (number_in code keys (x + 1)) ≡ rank_or (missing side) m p =
              ap (λ i. rank_of code side (i + x) (number_in code keys (x + 1))) first ∙ rank_of_key code side (place_of m.size p) (height_at m p) (number_in code keys (x + 1)) (of.each x below) in
              subst (IsLow m side (IsAtPlace (y + 1) (x + 1))) (sym is) (rank_low m side p (record { column = below; profile = profile })));
        }

    -- an empty one before the first or after the last
    pub row_of_none : (y : ℕ) (row : Row L) → (y ≡ 0) ⊎ (m.size.profiles < y) → row.first ≡ (y - 1) * m.size.points → IsEmpty code (m.size.points + 2) row.keys.items → IsKeyRow code side m y row
    row_of_none y row outside first empty =
        let keys = row.keys.items in
        let framed = empty_framed m.size.points keys empty in
        record {
          framed = framed;
          first = first;
          keys = λ k. subst (IsKey code) (sym (empty.none k)) (missing_key code);
          ranks = keys_framed y row.first keys framed (λ x below.
              rw (rank_of_missing code side (row.first + x) (number_in code keys (x + 1)) (ap code.shown (empty.none (x + 1)) ∙ code.missing_none))
              (low_empty m side (IsAtPlace y (x + 1)) (λ q there here.
              let p = there.profile in
              let inside = here.in_grid.profile in
              elim outside [ inl e ↦ omega (arith, p, e) | inr past ↦ omega (arith, p, inside, past) ])));
        }

    -- the rows round a profile are those before the next
    pub rows-next : (y : ℕ) (rows : Rows L) → AreRowsRound code side m y rows → AreRowsBefore code side m (y + 1) rows
    rows-next y rows round = record {
      spare = round.above.framed;
      level = round.level;
      below = (let e : y + 2 ≡ y + 1 + 1 = omega arith in subst (λ i. IsKeyRow code side m i rows.below) e round.below);
    }
