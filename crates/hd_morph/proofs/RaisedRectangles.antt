-- Numbers raised in a rectangle, row by row.
use Rattle.std.proofs.Common.{◌≡◌, ◌<◌, ◌≤◌, ◌+◌, ◌-◌, ◌*◌, ◌≤ℤ◌, ◌+ℤ◌, ◌⊎◌, ℕ, ℤ, pos, neg_ℤ, List, length, take, drop, Option, Some, None, inl, inr, refl, ap, sym, ◌∙◌, arith}
use Rattle.std.proofs.lemmas.Int.{ints}
use Rattle.std.proofs.lemmas.Bool.{cases_lt}
use Rattle.std.proofs.lemmas.List.{get_or_past}
use Rattle.std.proofs.Math.Nat.{mul-le-mul_right}
use borrow.Rule.Slice.PartMut.{put_mid}
use Rattle.hd_map.specs.declared.types.Pos.{Pos}
use Rattle.hd_map.specs.declared.types.Size.{Size}
use Rattle.hd_map.specs.Map.{Map, InGrid, cell_count, place_of, position_at}
use Rattle.hd_map.specs.Lanes.{IsBounded, IsPlainNumber}
use Rattle.hd_map.proofs.Lanes.{IsPlainNumber-more}
use Rattle.hd_map.proofs.Points.{position_at-inside, position_at-place}
use Rattle.hd_map.specs.Encoding.{Encoding, most_filtered, number_in, values_of}
use Rattle.hd_morph.specs.Plain.{ArePlain, relief, value_at}
use Rattle.hd_morph.specs.Raised.{AreSettled, AreTopped, IsSettled, plus}
use Rattle.hd_morph.specs.Filter.{relief_of}
use Rattle.hd_morph.specs.Listed.{AreHeightsOf}
use Rattle.hd_morph.specs.Rectangle.{AreNumbersRaised, AreRaisedWithin, IsWithin}
use Rattle.hd_morph.proofs.Encodings.{values_of-length, value_at-number_in, values_of-part}
use Rattle.hd_morph.proofs.Listed.{IsPlainNumber-missing}
use Rattle.hd_morph.proofs.PlainNumbers.{IsBounded-value, put_mid-after, put_mid-before, put_mid-inside, put_mid-length, take_drop-at, take_drop-length, value_at-inside}

module _ {L : Type 0} (code : Encoding L) (s : Size) (from to : Pos) (number : ℤ) (old : List L) where
  -- what a position becomes
  abbrev Settles : Pos → List L → Type 0
  Settles p now = IsSettled code (value_at (values_of code old) (place_of s p)) (value_at (values_of code old) (place_of s p)) number (number_in code now (place_of s p))

  -- the rows before one are raised
  pub record RaisedBefore (y : ℕ) (now : List L) : Type 0 where
    pub whole : length now ≡ length old
    pub done : (p : Pos) → InGrid s p → IsWithin from to p → p.y < y → Settles p now
    pub left : (p : Pos) → InGrid s p → (IsWithin from to p → p.y < y → ⊥) → number_in code now (place_of s p) ≡ number_in code old (place_of s p)

  -- at first none are
  pub RaisedBefore-none : (y : ℕ) (now : List L) → y ≡ from.y → now ≡ old → RaisedBefore y now
  RaisedBefore-none y now first same = record {
    whole = ap (λ (xs : List L). length xs) same;
    done = λ p inside within below. absurd (omega (arith, within.top, below, first));
    left = λ p inside not. ap (λ (xs : List L). number_in code xs (place_of s p)) same;
  }

  pub AreNumbersRaised-all : (y : ℕ) (now : List L) → to.y < y → RaisedBefore y now → AreNumbersRaised code s from to number old now
  AreNumbersRaised-all y now past was = record {
    whole = was.whole;
    within = λ p inside within. was.done p inside within (omega (arith, within.bottom, past));
    others = λ p inside out. was.left p inside (λ within _. out within);
  }

  -- the stretch of a row
  module _ (y a k : ℕ) (now : List L) (first : a ≡ y * s.points + from.x) (last : a + k ≡ y * s.points + (to.x + 1)) (corner : InGrid s to) (columns : from.x ≤ to.x)
      (after : from.y ≤ y) (before : y ≤ to.y) (long : length old ≡ cell_count s) (was : RaisedBefore y now) where
    room : a + k ≤ length old
    room = omega (arith, last, long, mul-le-mul_right s.points corner.profile, mul-le-mul_right s.points before, corner.column)

    -- a place of it before it is raised
    value_before : (i : ℕ) → i < k → value_at (values_of code (take k (drop a now))) i ≡ value_at (values_of code old) (a + i)
    value_before i below =
        let p : Pos = record { x = from.x + i; y = y } in
        let place : place_of s p ≡ a + i = omega (arith, first) in
        let inside : InGrid s p = record { column = omega (arith, first, last, below, corner.column); profile = omega (arith, before, corner.profile) } in
        let stays : number_in code now (a + i) ≡ number_in code old (a + i) = rw place at (was.left p inside (λ _ less. omega (arith, less))) in
        ap (λ (vs : List (Option ℤ)). value_at vs i) (values_of-part code a k now) ∙ take_drop-at None a k i (values_of code now) below
        ∙ value_at-number_in code now (a + i) ∙ ap code.shown stays ∙ sym (value_at-number_in code old (a + i))

    value_old : (i : ℕ) → i < k → value_at (values_of code (take k (drop a old))) i ≡ value_at (values_of code old) (a + i)
    value_old i below = ap (λ (vs : List (Option ℤ)). value_at vs i) (values_of-part code a k old) ∙ take_drop-at None a k i (values_of code old) below

    -- a top stands where a height does
    pub AreTopped-row : ArePlain code s code.most_height old → AreTopped (most_filtered code) (values_of code (take k (drop a old))) (values_of code (take k (drop a now)))
    AreTopped-row plain = record {
      whole = values_of-length code (take k (drop a now)) ∙ take_drop-length a k now (omega (arith, room, was.whole))
          ∙ sym (values_of-length code (take k (drop a old)) ∙ take_drop-length a k old room);
      each = λ i z is.
          let below : i < k = omega (arith, value_at-inside (values_of code (take k (drop a old))) i z is, values_of-length code (take k (drop a old)), take_drop-length a k old room) in
          let height : value_at (values_of code old) (a + i) ≡ Some z = sym (value_old i below) ∙ is in
          let within = IsBounded-value code s code.most_height old plain (a + i) in
          let low = within.least z height in
          let high = within.greatest z height in
          record { number = z; is_number = value_before i below ∙ height; least = omega (arith, ints); greatest = omega (arith, ints) };
    }

    -- one row further
    pub RaisedBefore-more : (row : List L) → AreSettled code (values_of code (take k (drop a old))) (values_of code (take k (drop a now))) number row → RaisedBefore (y + 1) (put_mid a k now row)
    RaisedBefore-more row settled =
        let size : length row ≡ k = settled.whole ∙ values_of-length code (take k (drop a now)) ∙ take_drop-length a k now (omega (arith, room, was.whole)) in
        let fits : a + k ≤ length now = omega (arith, room, was.whole) in
        let earlier : (p : Pos) → p.x < s.points → p.y < y → place_of s p < a = λ p column less. omega (arith, first, column, mul-le-mul_right s.points less) in
        let later : (p : Pos) → y < p.y → a + k ≤ place_of s p = λ p more. omega (arith, last, corner.column, mul-le-mul_right s.points more) in
        record {
          whole = put_mid-length a k now row fits size ∙ was.whole;
          done = λ p inside within below. elim (cases_lt p.y y) [
            | inl less ↦ rw (put_mid-before code.missing a k (place_of s p) now row fits size (earlier p inside.column less)) (was.done p inside within less)
            | inr not ↦
                let here : p.y ≡ y = omega (arith, not, below) in
                let i : ℕ = p.x - from.x in
                let place : place_of s p ≡ a + i = ap (λ (t : ℕ). t * s.points + p.x) here ∙ omega (arith, first, within.left) in
                let inner : i < k = omega (arith, first, last, within.left, within.right) in
                let new : number_in code (put_mid a k now row) (a + i) ≡ number_in code row i = put_mid-inside code.missing a k i now row fits size inner in
                let at : IsSettled code (value_at (values_of code old) (a + i)) (value_at (values_of code old) (a + i)) number (number_in code row i) =
                rw (value_old i inner, value_before i inner) at (settled.each i (omega (arith, inner, values_of-length code (take k (drop a now)), take_drop-length a k now fits))) in
                rw (place, new) at
          ];
          left = λ p inside out.
              let stays : number_in code now (place_of s p) ≡ number_in code old (place_of s p) = was.left p inside (λ within less. out within (omega (arith, less))) in
              elim (cases_lt p.y y) [
                | inl less ↦ put_mid-before code.missing a k (place_of s p) now row fits size (earlier p inside.column less) ∙ stays
                | inr not ↦ elim (cases_lt y p.y) [
                  | inl more ↦ put_mid-after code.missing a k (place_of s p) now row fits size (later p more) ∙ stays
                  | inr same ↦
                      let here : p.y ≡ y = omega (arith, not, same) in
                      let place : place_of s p ≡ y * s.points + p.x = ap (λ (t : ℕ). t * s.points + p.x) here in
                      elim (cases_lt p.x from.x) [
                        | inl left ↦ put_mid-before code.missing a k (place_of s p) now row fits size (omega (arith, place, first, left)) ∙ stays
                        | inr from_left ↦ elim (cases_lt to.x p.x) [
                          | inl right ↦ put_mid-after code.missing a k (place_of s p) now row fits size (omega (arith, place, last, right)) ∙ stays
                          | inr to_right ↦ absurd (out (record { left = from_left; right = to_right; top = omega (arith, here, after); bottom = omega (arith, here, before) }) (omega (arith, here)))
                        ]
                      ]
                ]
              ];
        }

-- a position lies in a rectangle, or not
within_or_not : (from to p : Pos) → IsWithin from to p ⊎ (IsWithin from to p → ⊥)
within_or_not from to p = elim (cases_lt p.x from.x) [
  | inl left ↦ inr (λ w. omega (arith, left, w.left))
  | inr from_left ↦ elim (cases_lt to.x p.x) [
    | inl right ↦ inr (λ w. omega (arith, right, w.right))
    | inr to_right ↦ elim (cases_lt p.y from.y) [
      | inl above ↦ inr (λ w. omega (arith, above, w.top))
      | inr from_top ↦ elim (cases_lt to.y p.y) [
        | inl below ↦ inr (λ w. omega (arith, below, w.bottom))
        | inr to_bottom ↦ inl (record { left = from_left; right = to_right; top = from_top; bottom = to_bottom })
      ]
    ]
  ]
]

-- a value raised, or none
settled_plus : {L : Type 0} (code : Encoding L) (v : Option ℤ) (number : ℤ) (new : L) → IsSettled code v v number new → code.shown new ≡ plus number v
settled_plus code (Some z) number new is = is.present z refl
settled_plus code None number new is = ap code.shown (is.absent refl) ∙ code.missing_none

module _ {L : Type 0} (code : Encoding L) (m : Map) (from to : Pos) (number : ℤ) (old new : List L) (raised : AreNumbersRaised code m.size from to number old new) where
  -- the heights of a map, raised
  pub AreRaisedWithin-map : AreHeightsOf code m old → AreRaisedWithin m.size from to number (relief_of m) (relief m.size (values_of code new))
  AreRaisedWithin-map are = record {
    within = λ p inside within.
        let k : ℕ = place_of m.size p in
        value_at-number_in code new k ∙ settled_plus code (value_at (values_of code old) k) number (number_in code new k) (raised.within p inside within) ∙ ap (plus number) (are.each p inside);
    others = λ p inside out.
        let k : ℕ = place_of m.size p in
        value_at-number_in code new k ∙ ap code.shown (raised.others p inside out) ∙ sym (value_at-number_in code old k) ∙ are.each p inside;
  }

  -- a raised number is plain, within more
  number_plain : (v : Option ℤ) (n : L) → neg_ℤ (pos code.most_number) ≤ℤ number → number ≤ℤ pos code.most_number → IsBounded code.most_height v → IsSettled code v v number n
      → IsPlainNumber code (most_filtered code) n
  number_plain (Some h) n least greatest within is =
      let there : code.shown n ≡ Some (h +ℤ number) = is.present h refl in
      let low = within.least h refl in
      let high = within.greatest h refl in
      record {
        bounded = record {
          least = λ z e. let same : h +ℤ number ≡ z = (let e' : Some (h +ℤ number) ≡ Some z = sym there ∙ e in cc) in omega (arith, ints);
          greatest = λ z e. let same : h +ℤ number ≡ z = (let e' : Some (h +ℤ number) ≡ Some z = sym there ∙ e in cc) in omega (arith, ints);
        };
        absent = λ none. let e : None ≡ Some (h +ℤ number) = sym none ∙ there in cc;
      }
  number_plain None n least greatest within is = rw (is.absent refl) (IsPlainNumber-missing code (most_filtered code))

  pub ArePlain-raised : 1 ≤ m.size.points → neg_ℤ (pos code.most_number) ≤ℤ number → number ≤ℤ pos code.most_number → ArePlain code m.size code.most_height old
      → ArePlain code m.size (most_filtered code) new
  ArePlain-raised some least greatest plain = record {
    whole = raised.whole ∙ plain.whole;
    plain = record {
      each = λ k. elim (cases_lt k (cell_count m.size)) [
        | inl below ↦
            let p : Pos = position_at m.size k in
            let place : place_of m.size p ≡ k = position_at-place m.size k some in
            let inside : InGrid m.size p = position_at-inside m.size k some below in
            let value = IsBounded-value code m.size code.most_height old plain (place_of m.size p) in
            let here : IsPlainNumber code (most_filtered code) (number_in code new (place_of m.size p)) = elim (within_or_not from to p) [
              | inl within ↦ number_plain (value_at (values_of code old) (place_of m.size p)) (number_in code new (place_of m.size p)) least greatest value (raised.within p inside within)
              | inr out ↦ rw (raised.others p inside out) (IsPlainNumber-more code code.most_height (most_filtered code) (number_in code old (place_of m.size p)) (omega arith)
                  (plain.plain.each (place_of m.size p)))
            ] in
            rw place at here
        | inr past ↦ rw (get_or_past new k code.missing (omega (arith, past, raised.whole, plain.whole))) (IsPlainNumber-missing code (most_filtered code))
      ];
    };
  }
