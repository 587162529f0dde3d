-- The dilation by an element that has one and the same number everywhere.
use Rattle.std.proofs.Common.{◌≡◌, ◌<◌, ◌≤◌, ◌+◌, ◌-◌, ◌*◌, ◌/◌, ◌≤ℤ◌, ◌+ℤ◌, ◌-ℤ◌, ℕ, ℤ, pos, neg_ℤ, List, length, slice_index_or, Option, Some, None, refl, ap, subst, ◌∙◌, arith}
use Rattle.std.proofs.lemmas.Int.{ints}
use Rattle.std.proofs.lemmas.Nat.{mul-add-lt}
use Rattle.hd_map.specs.declared.types.Pos.{Pos}
use Rattle.hd_map.specs.declared.types.Size.{Size}
use Rattle.hd_map.specs.Map.{InGrid, place_of, position_at}
use Rattle.hd_map.specs.Encoding.{Encoding, values_of, most_between, most_filtered}
use Rattle.hd_map.proofs.Points.{position_at-place, position_at-inside}
use Rattle.hd_morph.specs.Element.{ElementTable, IsElement, number_at, centre}
use Rattle.hd_morph.specs.Greatest.{IsGreatest}
use Rattle.hd_morph.specs.Filter.{IsRaised}
use Rattle.hd_morph.specs.Plain.{relief, ArePlain, HasNumbersWithin}
use Rattle.hd_morph.specs.Raised.{IsFlat, AreFlatlyDilated, AreTopped, AreSettled, plus}
use Rattle.hd_morph.specs.Round.{IsRound, AreRoundGreatests}
use Rattle.hd_morph.specs.Turned.{turned_table}
use Rattle.hd_morph.proofs.Encodings.{values_of-length}
use Rattle.hd_morph.proofs.PlainNumbers.{IsBounded-value, value_at-inside}
use Rattle.hd_morph.proofs.Settling.{ArePlainlyFiltered-topped}
use Rattle.hd_morph.proofs.Turned.{opposite, turned_table-number}

-- the heights round a position are those that the element leads from
round_raised : (s : Size) (e : ElementTable) (across down : ℕ) (n : ℤ) (f : List (Option ℤ)) (p : Pos) (z : ℤ) → IsFlat e across down n → InGrid s p → IsRound s across down f p z
    → IsRaised s e (relief s f) p (z +ℤ n)
round_raised s e across down n f p z flat inside a =
    let u : Pos = record { x = p.x + across - a.at.x; y = p.y + down - a.at.y } in
    let column : u.x < e.width = omega (arith, flat.columns, a.columns.not_after, a.columns.not_before) in
    let row : u.y < e.height = omega (arith, flat.rows, a.rows.not_after, a.rows.not_before) in
    record {
      from = a.at;
      height = z;
      number = n;
      links = record {
        offset = u;
        from = a.inside;
        to = inside;
        is_offset = record { column = column; row = row; across = omega (arith, flat.columns, a.columns.not_after); down = omega (arith, flat.rows, a.rows.not_after) };
        is_number = flat.each u column row;
      };
      is_height = a.is;
      sum = refl;
    }

raised_round : (s : Size) (e : ElementTable) (across down : ℕ) (n : ℤ) (f : List (Option ℤ)) (p : Pos) (z : ℤ) → IsFlat e across down n → IsRaised s e (relief s f) p z
    → IsRound s across down f p (z -ℤ n)
raised_round s e across down n f p z flat r =
    let o = r.links.is_offset in
    let number : number_at e r.links.offset ≡ Some n = flat.each r.links.offset o.column o.row in
    let same : r.number ≡ n = (let there : number_at e r.links.offset ≡ Some r.number = r.links.is_number in cc) in
    let sum : z ≡ r.height +ℤ r.number = r.sum in
    let height : r.height ≡ z -ℤ n = omega (arith, ints) in
    record {
      at = r.from;
      inside = r.links.from;
      columns = record { not_after = omega (arith, flat.columns, o.column, o.across); not_before = omega (arith, flat.columns, o.column, o.across) };
      rows = record { not_after = omega (arith, flat.rows, o.row, o.down); not_before = omega (arith, flat.rows, o.row, o.down) };
      is = r.is_height ∙ ap Some height;
    }

-- the greatest height, raised, is the greatest of the raised heights
raised_greatest : (P Q : ℤ → Type 0) (n : ℤ) (v : Option ℤ) → ((z : ℤ) → P z → Q (z +ℤ n)) → ((z : ℤ) → Q z → P (z -ℤ n)) → IsGreatest P v → IsGreatest Q (plus n v)
raised_greatest P Q n None up down was = record {
  attained = λ y e. let e' : None ≡ Some y = e in cc;
  reached = λ y q. let found = was.reached (y -ℤ n) (down y q) in let e : None ≡ Some found.0 = found.1 in cc;
}
raised_greatest P Q n (Some x) up down was = record {
  attained = λ y e. let same : x +ℤ n ≡ y = cc in subst Q same (up x (was.attained x refl));
  reached = λ y q.
      let found = was.reached (y -ℤ n) (down y q) in
      let same : found.0 ≡ x = (let e : Some x ≡ Some found.0 = found.1 in cc) in
      let below : (y -ℤ n) ≤ℤ found.0 = found.2 in
      (x +ℤ n, refl, omega (arith, ints));
}

module _ {L : Type 0} (code : Encoding L) where
  -- a position with a height has a height round it, and so a top
  pub AreTopped-round : (s : Size) (across down : ℕ) (f : List L) (tops : List (Option ℤ)) → 1 ≤ s.points → ArePlain code s (most_between code) f
      → AreRoundGreatests s across down (values_of code f) tops
      → AreTopped (most_filtered code) (values_of code f) tops
  AreTopped-round s across down f tops some plain round = record {
    whole = round.whole;
    each = λ k z is.
        let p : Pos = position_at s k in
        let place : place_of s p ≡ k = position_at-place s k some in
        let inside : InGrid s p = position_at-inside s k some (omega (arith, value_at-inside (values_of code f) k z is, values_of-length code f, plain.whole)) in
        let itself : IsRound s across down (values_of code f) p z = record {
          at = p;
          inside = inside;
          columns = record { not_after = omega arith; not_before = omega arith };
          rows =
              record { not_after = omega arith; not_before = omega arith };
          is = rw place is;
        } in
        let top = (round.each p inside).reached z itself in
        let from = (round.each p inside).attained top.0 top.1 in
        let within = IsBounded-value code s (most_between code) f plain (place_of s from.at) in
        let low = within.least top.0 from.is in
        let high = within.greatest top.0 from.is in
        record { number = top.0; is_number = rw place at top.1; least = omega (arith, ints); greatest = omega (arith, ints) };
  }

  -- tops that are the greatest heights of rectangles, settled, are the dilation
  pub AreFlatlyDilated-settled : (s : Size) (across down : ℕ) (n : ℤ) (f : List L) (tops : List (Option ℤ)) (d : List L) → 1 ≤ s.points → ArePlain code s (most_between code) f
      → AreRoundGreatests s across down (values_of code f) tops → AreSettled code (values_of code f) tops n d → AreFlatlyDilated code s across down n f d
  AreFlatlyDilated-settled s across down n f tops d some plain round settled = record {
    each = λ e flat. ArePlainlyFiltered-topped code s e f tops d n plain.whole (AreTopped-round s across down f tops some plain round) settled
        (λ p inside z is. raised_greatest (IsRound s across down (values_of code f) p) (IsRaised s e (relief s (values_of code f)) p) n (relief s tops p)
        (λ y a. round_raised s e across down n (values_of code f) p y flat inside a) (λ y r. raised_round s e across down n (values_of code f) p y flat r) (round.each p inside));
  }

-- an element of which each number is the same is flat
pub IsFlat-all : (e : ElementTable) (n : ℤ) → IsElement e → ((k : ℕ) → k < length e.table → slice_index_or e.table k None ≡ Some n) → IsFlat e (e.width / 2) (e.height / 2) n
IsFlat-all e n is each = record {
  columns = omega (arith, is.odd_width);
  rows = omega (arith, is.odd_height);
  each = λ u column row. each (u.y * e.width + u.x) (omega (arith, is.whole, mul-add-lt u.y e.width u.x e.height row column));
}

-- the number of a flat element is within the limits
pub IsFlat-within : (e : ElementTable) (across down m : ℕ) (n : ℤ) → IsElement e → HasNumbersWithin m e → IsFlat e across down n → (neg_ℤ (pos m) ≤ℤ n) × (n ≤ℤ pos m)
IsFlat-within e across down m n is numbers flat =
    let number : number_at e (centre e) ≡ Some n = flat.each (centre e) (omega (arith, is.odd_width)) (omega (arith, is.odd_height)) in
    let within = numbers.each ((centre e).y * e.width + (centre e).x) in
    (within.least n number, within.greatest n number)

-- a flat element, turned, is flat
pub IsFlat-turned : (e : ElementTable) (across down : ℕ) (n : ℤ) → IsElement e → IsFlat e across down n → IsFlat (turned_table e) across down n
IsFlat-turned e across down n is flat = record {
  columns = flat.columns;
  rows = flat.rows;
  each = λ u column row. turned_table-number e u is.whole column row ∙ flat.each (opposite e u) (omega (arith, column)) (omega (arith, row));
}
