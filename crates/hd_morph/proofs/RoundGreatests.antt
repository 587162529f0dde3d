-- The greatest of the heights of a rectangle, column by column and row by row.
use Rattle.std.proofs.Common.{◌≡◌, ◌<◌, ◌≤◌, ◌+◌, ◌-◌, ◌*◌, ℕ, ℤ, List, length, take, drop, Option, Some, None, inl, inr, refl, ap, sym, ◌∙◌, arith}
use Rattle.std.proofs.lemmas.Bool.{cases_lt}
use Rattle.std.proofs.Math.Nat.{mul-le-mul_right}
use borrow.Rule.Slice.PartMut.{put_mid}
use Rattle.hd_map.specs.declared.types.Pos.{Pos}
use Rattle.hd_map.specs.declared.types.Size.{Size}
use Rattle.hd_map.specs.Map.{InGrid, place_of, cell_count}
use Rattle.hd_map.proofs.Points.{place_inside, inside_place}
use Rattle.hd_morph.specs.Greatest.{IsGreatest}
use Rattle.hd_morph.specs.Plain.{value_at, relief}
use Rattle.hd_morph.specs.Window.{IsNearby, AreWindowGreatests, IsStridesOff, AreStrideGreatests}
use Rattle.hd_morph.specs.Round.{IsNear, IsInRow, AreRowGreatests, IsRound, AreRoundGreatests}
use Rattle.hd_morph.proofs.Greatest.{IsGreatest-same_values, IsGreatest-nested, IsOneOf}
use Rattle.hd_morph.proofs.PlainNumbers.{value_at-inside, put_mid-inside, put_mid-before, put_mid-after, put_mid-length, take_drop-at, take_drop-length}

-- the rows before y are done
pub record RowsDone (s : Size) (reach : ℕ) (old : List (Option ℤ)) (y : ℕ) (now : List (Option ℤ)) : Type 0 where
  pub whole : length now ≡ length old
  pub done : (p : Pos) → InGrid s p → p.y < y → IsGreatest (IsInRow s reach old p) (relief s now p)
  pub left : (k : ℕ) → y * s.points ≤ k → value_at now k ≡ value_at old k

pub RowsDone-none : (s : Size) (reach : ℕ) (old : List (Option ℤ)) → RowsDone s reach old 0 old
RowsDone-none s reach old = record { whole = refl; done = λ p inside below. absurd (omega arith); left = λ k above. refl }

pub AreRowGreatests-all : (s : Size) (reach y : ℕ) (old now : List (Option ℤ)) → s.profiles ≤ y → RowsDone s reach old y now → AreRowGreatests s reach old now
AreRowGreatests-all s reach y old now all rows = record { whole = rows.whole; each = λ p inside. rows.done p inside (omega (arith, inside.profile)) }

-- one row more
pub RowsDone-more : (s : Size) (reach y k : ℕ) (old now part : List (Option ℤ)) → y < s.profiles → length old ≡ cell_count s → k ≡ s.points
    → RowsDone s reach old y now → AreWindowGreatests (take k (drop (y * s.points) now)) reach part → RowsDone s reach old (y + 1) (put_mid (y * s.points) k now part)
RowsDone-more s reach y k old now part row whole width rows window =
    let row_room : (y + 1) * s.points ≤ s.profiles * s.points = mul-le-mul_right s.points (let h : y + 1 ≤ s.profiles = omega arith in h) in
    let room : y * s.points + k ≤ length now = omega (arith, rows.whole, row_room) in
    let size : length part ≡ k = window.whole ∙ take_drop-length (y * s.points) k now room in
    record {
      whole = put_mid-length (y * s.points) k now part room size ∙ rows.whole;
      done = λ p inside below. elim (cases_lt p.y y) [
        | inl before ↦
            let earlier : (p.y + 1) * s.points ≤ y * s.points = mul-le-mul_right s.points (let h : p.y + 1 ≤ y = omega arith in h) in
            let there : value_at (put_mid (y * s.points) k now part) (place_of s p) ≡ value_at now (place_of s p) =
            put_mid-before None (y * s.points) k (place_of s p) now part room size (omega (arith, earlier, inside.column)) in
            rw there (rows.done p inside before)
        | inr not ↦
            let same : p.y ≡ y = omega arith in
            let place : place_of s p ≡ y * s.points + p.x = ap (λ t. t * s.points + p.x) same in
            let there : value_at (put_mid (y * s.points) k now part) (place_of s p) ≡ value_at part p.x =
            ap (value_at (put_mid (y * s.points) k now part)) place ∙ put_mid-inside None (y * s.points) k p.x now part room size (omega (arith, inside.column)) in
            rw there (IsGreatest-same_values (IsNearby (take k (drop (y * s.points) now)) reach p.x) (IsInRow s reach old p) (value_at part p.x)
            (λ z a.
            let below : a.at < k = omega (arith, value_at-inside (take k (drop (y * s.points) now)) a.at z a.is, take_drop-length (y * s.points) k now room) in
            let at : value_at (take k (drop (y * s.points) now)) a.at ≡ value_at old (p.y * s.points + a.at) =
            take_drop-at None (y * s.points) k a.at now below ∙ rows.left (y * s.points + a.at) (omega arith) ∙ ap (λ t. value_at old (t * s.points + a.at)) (sym same) in
            record { column = a.at; inside = omega (arith, below); near = record { not_after = a.not_after; not_before = a.not_before }; is = sym at ∙ a.is })
            (λ z a.
            let below : a.column < k = omega (arith, a.inside) in
            let at : value_at (take k (drop (y * s.points) now)) a.column ≡ value_at old (p.y * s.points + a.column) =
            take_drop-at None (y * s.points) k a.column now below ∙ rows.left (y * s.points + a.column) (omega arith) ∙ ap (λ t. value_at old (t * s.points + a.column)) (sym same) in
            record { at = a.column; not_after = a.near.not_after; not_before = a.near.not_before; is = at ∙ a.is })
            (window.each p.x (omega (arith, inside.column, take_drop-length (y * s.points) k now room))))
      ];
      left = λ i above.
          let beyond : y * s.points + k ≤ i = omega arith in
          put_mid-after None (y * s.points) k i now part room size beyond ∙ rows.left i (omega arith);
    }

-- a position of the row, at most reach columns off
record IsBeside (s : Size) (reach : ℕ) (p q : Pos) : Type 0 where
  row : q.y ≡ p.y
  inside : q.x < s.points
  near : IsNear reach p.x q.x

-- z is a height of the same column, at most down rows off
record IsInColumn (s : Size) (down : ℕ) (heights : List (Option ℤ)) (p : Pos) (z : ℤ) : Type 0 where
  y : ℕ
  near : IsNear down p.y y
  is : value_at heights (y * s.points + p.x) ≡ Some z

-- places of a column are some rows apart
rows_apart : (w x y n at : ℕ) → x < w → at + n * w ≡ y * w + x → (n ≤ y) × (at ≡ (y - n) * w + x)
rows_apart w x y n at inside e =
    let fewer : n ≤ y = elim (cases_lt y n) [
      | inr fewer ↦ fewer
      | inl more ↦ absurd (omega (arith, mul-le-mul_right w (let h : y + 1 ≤ n = omega arith in h)))
    ] in
    let rest : (y - n) * w + n * w ≡ y * w = split (y - n) n y w (omega arith) in
    (fewer, omega arith)
  where
    split : (a b c w : ℕ) → a + b ≡ c → a * w + b * w ≡ c * w
    split a b c w e = rw (← e) (omega arith)

-- strides of one row are a column
column_strides : (s : Size) (down : ℕ) (old new : List (Option ℤ)) → length old ≡ cell_count s → AreStrideGreatests old s.points down new
    → (p : Pos) → InGrid s p → IsGreatest (IsInColumn s down old p) (relief s new p)
column_strides s down old new whole was p inside = IsGreatest-same_values (IsStridesOff old s.points down (place_of s p)) (IsInColumn s down old p) (relief s new p)
    (λ z a. elim a.side [
      | inl after ↦ record {
        y = p.y + a.steps;
        near = record { not_after = omega (arith, a.near); not_before = omega arith };
        is = (let place : a.at ≡ (p.y + a.steps) * s.points + p.x = omega (arith, after) in rw place at a.is);
      }
      | inr back ↦ let apart = rows_apart s.points p.x p.y a.steps a.at inside.column back in record {
        y = p.y - a.steps;
        near = record { not_after = omega arith; not_before = omega (arith, a.near, apart.0) };
        is = rw apart.1 at a.is;
      }
    ])
    (λ z a. elim (cases_lt a.y p.y) [
      | inl above ↦ record {
        at = a.y * s.points + p.x;
        steps = p.y - a.y;
        near = omega (arith, a.near.not_before);
        side = inr (sum_of a.y (p.y - a.y) p.y s.points p.x (omega arith));
        is = a.is;
      }
      | inr below ↦ record {
        at = a.y * s.points + p.x;
        steps = a.y - p.y;
        near = omega (arith, a.near.not_after);
        side = inl (sym (sum_of p.y (a.y - p.y) a.y s.points p.x (omega arith)));
        is = a.is;
      }
    ])
    (was.each (place_of s p) (omega (arith, whole, place_inside s p inside)))
  where
    sum_of : (a b c w x : ℕ) → a + b ≡ c → (a * w + x) + b * w ≡ c * w + x
    sum_of a b c w x e = rw (← e) (omega arith)

-- the greatest over the columns, and then over the rows, is the greatest of the rectangle
pub AreRoundGreatests-join : (s : Size) (across down : ℕ) (old mid new : List (Option ℤ)) → length old ≡ cell_count s
    → AreStrideGreatests old s.points down mid → AreRowGreatests s across mid new → AreRoundGreatests s across down old new
AreRoundGreatests-join s across down old mid new whole columns rows = record {
  whole = rows.whole ∙ columns.whole;
  each = λ p inside. IsGreatest-nested Pos (IsBeside s across p) (λ q. IsInColumn s down old q) (relief s mid) (IsRound s across down old p) (relief s new p)
      (λ q beside. column_strides s down old mid whole columns q (record { column = beside.inside; profile = omega (arith, beside.row, inside.profile) }))
      (λ q z beside a.
      let at : Pos = record { x = q.x; y = a.y } in
      record {
        at = at;
        inside = inside_place s at beside.inside (omega (arith, whole, value_at-inside old (place_of s at) z a.is));
        columns = beside.near;
        rows = record { not_after = omega (arith, a.near.not_after, beside.row); not_before = omega (arith, a.near.not_before, beside.row) };
        is = a.is;
      })
      (λ z a.
      let q : Pos = record { x = a.at.x; y = p.y } in
      (q, record { row = refl; inside = a.inside.column; near = a.columns }, record { y = a.at.y; near = a.rows; is = a.is }))
      (IsGreatest-same_values (IsInRow s across mid p) (IsOneOf Pos (IsBeside s across p) (relief s mid)) (relief s new p)
      (λ z a. record { index = record { x = a.column; y = p.y }; chosen = record { row = refl; inside = a.inside; near = a.near }; is = a.is })
      (λ z a. record { column = a.index.x; inside = a.chosen.inside; near = a.chosen.near; is = (let place : a.index.y ≡ p.y = a.chosen.row in rw (ap (λ t. t * s.points + a.index.x) place) at a.is) })
      (rows.each p inside));
}
