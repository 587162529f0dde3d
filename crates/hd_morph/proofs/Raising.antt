-- The greatest of the raised heights, offset by offset.
use Rattle.std.proofs.Common.{◌≡◌, ◌<◌, ◌≤◌, ◌+◌, ◌-◌, ◌*◌, ◌/◌, ◌+ℤ◌, ℕ, ℤ, pos, List, length, take, drop, slice_set, length-set, get_or-set_same}
use Rattle.std.proofs.Common.{get_or-set_other, below_more, Option, Some, None, inl, inr, refl, ap, subst, sym, ◌∙◌, arith}
use Rattle.std.proofs.lemmas.Int.{ints}
use Rattle.std.proofs.lemmas.Bool.{cases_lt}
use Rattle.std.proofs.lemmas.Nat.{mul-add-lt, same_from_place}
use Rattle.std.proofs.Math.Nat.{mul-le-mul_right}
use borrow.Rule.Slice.PartMut.{put_mid}
use Rattle.hd_map.specs.declared.types.Pos.{Pos}
use Rattle.hd_map.specs.declared.types.Size.{Size}
use Rattle.hd_map.specs.Map.{InGrid, place_of, position_at, cell_count}
use Rattle.hd_map.specs.Encoding.{Encoding, values_of, most_between, most_filtered}
use Rattle.hd_map.proofs.Gather.{same_pos}
use Rattle.hd_map.proofs.Points.{position_at-place, position_at-inside}
use Rattle.hd_morph.specs.Element.{ElementTable, IsElement, number_at}
use Rattle.hd_morph.specs.Greatest.{IsGreatest, larger}
use Rattle.hd_morph.specs.declared.filter.Filter.TheVariants.{Dilation}
use Rattle.hd_morph.specs.Filter.{Relief, IsOffset, IsRaised}
use Rattle.hd_morph.specs.Plain.{value_at, relief, ArePlain, HasNumbersWithin}
use Rattle.hd_morph.specs.Raised.{ArePlainlyFiltered, AreTopped, AreSettled, plus, AreRaisedTo, AreRaisedAcross, IsRaisedBy, IsRowRaisedOnce, AreBlank, IsBlankRow, IsRowRaised, AreRaised}
use Rattle.hd_morph.proofs.Greatest.{IsGreatest-same_values, IsGreatest-join, IsGreatest-none, larger-none}
use Rattle.hd_morph.proofs.Encodings.{values_of-length}
use Rattle.hd_morph.proofs.PlainNumbers.{Option-some_or_none, value_at-inside, put_mid-inside, put_mid-before, put_mid-after, put_mid-length, take_drop-at, take_drop-length, IsBounded-relief}
use Rattle.hd_morph.proofs.Adjunction.{HasOrigin-element, Links-centre}
use Rattle.hd_morph.proofs.Settling.{ArePlainlyFiltered-topped}

-- as many values of a stretch as there were steps are raised
pub record RaisedBefore (heights : List (Option ℤ)) (from : ℕ) (number : ℤ) (to step : ℕ) (old now : List (Option ℤ)) : Type 0 where
  pub whole : length now ≡ length old
  pub inside : (k : ℕ) → k < step → value_at now (to + k) ≡ larger (value_at old (to + k)) (plus number (value_at heights (from + k)))
  pub below : (k : ℕ) → k < to → value_at now k ≡ value_at old k
  pub above : (k : ℕ) → to + step ≤ k → value_at now k ≡ value_at old k

pub RaisedBefore-none : (heights : List (Option ℤ)) (from : ℕ) (number : ℤ) (to : ℕ) (old : List (Option ℤ)) → RaisedBefore heights from number to 0 old old
RaisedBefore-none heights from number to old = record { whole = refl; inside = λ k less. absurd (omega arith); below = λ k less. refl; above = λ k past. refl }

pub RaisedBefore-more : (heights : List (Option ℤ)) (from : ℕ) (number : ℤ) (to step : ℕ) (old now : List (Option ℤ)) (new : Option ℤ) → to + step < length old
    → new ≡ larger (value_at now (to + step)) (plus number (value_at heights (from + step)))
    → RaisedBefore heights from number to step old now → RaisedBefore heights from number to (step + 1) old (slice_set now (to + step) new)
RaisedBefore-more heights from number to step old now new room is was =
    let at : ℕ = to + step in
    let room_now : at < length now = omega (arith, was.whole) in
    let here : value_at now at ≡ value_at old at = was.above at (omega arith) in
    record {
      whole = length-set now at new ∙ was.whole;
      inside = below_more _ _
          (λ k less. get_or-set_other now at (to + k) new None (omega arith) ∙ was.inside k less)
          (get_or-set_same now at new None room_now ∙ is ∙ rw here);
      below = λ k less. get_or-set_other now at k new None (omega arith) ∙ was.below k less;
      above = λ k past. get_or-set_other now at k new None (omega arith) ∙ was.above k (omega arith);
    }

pub AreRaisedTo-all : (heights : List (Option ℤ)) (from : ℕ) (number : ℤ) (to step count : ℕ) (old now : List (Option ℤ)) → step ≡ count
    → RaisedBefore heights from number to step old now → AreRaisedTo heights from count number to old now
AreRaisedTo-all heights from number to step count old now all was = record {
  whole = was.whole;
  inside = λ k less. was.inside k (omega arith);
  below = was.below;
  above =
      λ k past. was.above k (omega arith);
}

-- a stretch of a row is the part that an offset leads to
pub AreRaisedAcross-stretch : (heights : List (Option ℤ)) (reach column ahead behind count : ℕ) (number : ℤ) (old new : List (Option ℤ)) → length heights ≡ length old
    → ahead ≡ reach - column → behind ≡ column - reach
    → ahead + behind < length heights → count ≡ length heights - ahead - behind → AreRaisedTo heights ahead count number behind old new → AreRaisedAcross heights reach column number old new
AreRaisedAcross-stretch heights reach column ahead behind count number old new whole ahead_is behind_is room count_is was = record {
  whole = was.whole;
  reached = λ x from inside from_inside leads.
      let k : ℕ = x - behind in
      let less : k < count = omega arith in
      let to : behind + k ≡ x = omega arith in
      let here : ahead + k ≡ from = omega arith in
      rw (to, here) at (was.inside k less);
  others = λ x none. elim (cases_lt x behind) [
    | inl less ↦ was.below x less
    | inr more ↦ elim (cases_lt x (behind + count)) [
      | inl inside ↦ absurd (none (ahead + (x - behind)) (omega arith) (omega arith))
      | inr past ↦ was.above x past
    ]
  ];
}

-- where nothing overlaps, nothing is reached
pub AreRaisedAcross-nowhere : (heights : List (Option ℤ)) (reach column ahead behind : ℕ) (number : ℤ) (old : List (Option ℤ)) → length heights ≡ length old
    → ahead ≡ reach - column → behind ≡ column - reach
    → length heights ≤ ahead + behind → AreRaisedAcross heights reach column number old old
AreRaisedAcross-nowhere heights reach column ahead behind number old whole ahead_is behind_is room = record {
  whole = refl;
  reached = λ x from inside from_inside leads. absurd (omega arith);
  others = λ x none. refl;
}

-- an offset leads to a position from one at most
one_from : (e : ElementTable) (u v from from' p : Pos) → v ≡ u → IsOffset e u from p → IsOffset e v from' p → from' ≡ from
one_from e u v from from' p same a b =
    let c : IsOffset e u from' p = subst (λ (w : Pos). IsOffset e w from' p) same b in
    same_pos from' from (omega (arith, a.across, c.across)) (omega (arith, a.down, c.down))

module _ (s : Size) (e : ElementTable) (f : Relief) (p offset : Pos) where
  pub IsRaisedBy-no_number : number_at e offset ≡ None → IsGreatest (IsRaisedBy s e f p (λ u. u ≡ offset)) None
  IsRaisedBy-no_number none = IsGreatest-none _ (λ z r.
      let there : number_at e r.is_raised.links.offset ≡ Some r.is_raised.number = r.is_raised.links.is_number in
      let same : number_at e r.is_raised.links.offset ≡ number_at e offset = ap (number_at e) r.chosen in
      cc)

  pub IsRaisedBy-no_position : ((from : Pos) → InGrid s from → IsOffset e offset from p → ⊥) → IsGreatest (IsRaisedBy s e f p (λ u. u ≡ offset)) None
  IsRaisedBy-no_position none = IsGreatest-none _ (λ z r. none r.is_raised.from r.is_raised.links.from
      (subst (λ (u : Pos). IsOffset e u r.is_raised.from p) r.chosen r.is_raised.links.is_offset))

  no_height : (from : Pos) → IsOffset e offset from p → f from ≡ None → IsGreatest (IsRaisedBy s e f p (λ u. u ≡ offset)) None
  no_height from leads none = IsGreatest-none _ (λ z r.
      let same : r.is_raised.from ≡ from = one_from e offset r.is_raised.links.offset from r.is_raised.from p r.chosen leads r.is_raised.links.is_offset in
      let there : f r.is_raised.from ≡ Some r.is_raised.height = r.is_raised.is_height in
      let same' : f r.is_raised.from ≡ f from = ap f same in
      cc)

  one_raised : (from : Pos) (number height : ℤ) → InGrid s from → InGrid s p → IsOffset e offset from p → number_at e offset ≡ Some number → f from ≡ Some height
      → IsGreatest (IsRaisedBy s e f p (λ u. u ≡ offset)) (Some (height +ℤ number))
  one_raised from number height inside inside' leads is_number is_height = record {
    attained = λ z is. record {
      is_raised = record {
        from = from;
        height = height;
        number = number;
        links = record { offset = offset; from = inside; to = inside'; is_offset = leads; is_number = is_number };
        is_height = is_height;
        sum = cc;
      };
      chosen = refl;
    };
    reached = λ z r.
        let same : r.is_raised.from ≡ from = one_from e offset r.is_raised.links.offset from r.is_raised.from p r.chosen leads r.is_raised.links.is_offset in
        let one : r.is_raised.height ≡ height = (
        let there : f r.is_raised.from ≡ Some r.is_raised.height = r.is_raised.is_height in
        let same' : f r.is_raised.from ≡ f from = ap f same in
        cc) in
        let two : r.is_raised.number ≡ number = (
        let there : number_at e r.is_raised.links.offset ≡ Some r.is_raised.number = r.is_raised.links.is_number in
        let same' : number_at e r.is_raised.links.offset ≡ number_at e offset = ap (number_at e) r.chosen in
        cc) in
        let sum : z ≡ r.is_raised.height +ℤ r.is_raised.number = r.is_raised.sum in
        (height +ℤ number, refl, omega (arith, ints));
  }

  -- from the position that an offset leads from comes its height, raised
  pub IsRaisedBy-one_offset : (from : Pos) (number : ℤ) → InGrid s from → InGrid s p → IsOffset e offset from p → number_at e offset ≡ Some number
      → IsGreatest (IsRaisedBy s e f p (λ u. u ≡ offset)) (plus number (f from))
  IsRaisedBy-one_offset from number inside inside' leads is_number = elim (Option-some_or_none (f from)) [
    | inl z ↦ rw z.1 (one_raised from number z.0 inside inside' leads is_number z.1)
    | inr none ↦ rw none (no_height from leads none)
  ]

-- a row that an offset leads nowhere in stays
pub IsRowRaisedOnce-kept : (s : Size) (e : ElementTable) (f : Relief) (y : ℕ) (offset : Pos) (old : List (Option ℤ))
    → ((x : ℕ) → x < s.points → IsGreatest (IsRaisedBy s e f (record { x = x; y = y }) (λ u. u ≡ offset)) None) → IsRowRaisedOnce s e f y offset old old
IsRowRaisedOnce-kept s e f y offset old none = record { whole = refl; each = λ x inside. record { raised = None; greatest = none x inside; is = sym (larger-none (value_at old x)) } }

-- no row of the grid leads to this one
pub IsRowRaisedOnce-no_row : (s : Size) (e : ElementTable) (f : Relief) (y : ℕ) (offset : Pos) (old : List (Option ℤ))
    → ((from : ℕ) → from < s.profiles → from + offset.y ≡ y + e.height / 2 → ⊥) → IsRowRaisedOnce s e f y offset old old
IsRowRaisedOnce-no_row s e f y offset old none = IsRowRaisedOnce-kept s e f y offset old
    (λ x inside. IsRaisedBy-no_position s e f (record { x = x; y = y }) offset (λ from within leads. none from.y within.profile leads.down))

-- a row of heights, raised across, raises a row once
pub IsRowRaisedOnce-across : (s : Size) (e : ElementTable) (heights : List (Option ℤ)) (y row start : ℕ) (offset : Pos) (number : ℤ) (old new : List (Option ℤ))
    → length heights ≡ cell_count s → length old ≡ s.points → y < s.profiles
    → row < s.profiles → row + offset.y ≡ y + e.height / 2 → offset.x < e.width → offset.y < e.height → number_at e offset ≡ Some number → start ≡ row * s.points
    → AreRaisedAcross (take s.points (drop start heights)) (e.width / 2) offset.x number old new → IsRowRaisedOnce s e (relief s heights) y offset old new
IsRowRaisedOnce-across s e heights y row start offset number old new whole width within row_within leads column table_row is_number start_is was =
    let last : (row + 1) * s.points ≤ s.profiles * s.points = mul-le-mul_right s.points (let h : row + 1 ≤ s.profiles = omega arith in h) in
    let room : start + s.points ≤ length heights = omega (arith, whole, last) in
    let size : length (take s.points (drop start heights)) ≡ s.points = take_drop-length start s.points heights room in
    record {
      whole = was.whole;
      each = λ x inside.
          let p : Pos = record { x = x; y = y } in
          let p_inside : InGrid s p = record { column = inside; profile = within } in
          elim (cases_lt (x + e.width / 2) offset.x) [
            | inl before ↦ record {
              raised = None;
              greatest = IsRaisedBy-no_position s e (relief s heights) p offset (λ from from_inside o. let across : from.x + offset.x ≡ x + e.width / 2 = o.across in omega arith);
              is = was.others x (λ from less e'. omega arith) ∙ sym (larger-none (value_at old x));
            }
            | inr after ↦ elim (cases_lt (x + e.width / 2 - offset.x) s.points) [
              | inl there ↦
                  let q : Pos = record { x = x + e.width / 2 - offset.x; y = row } in
                  let o : IsOffset e offset q p = record { column = column; row = table_row; across = omega arith; down = leads } in
                  let value : value_at (take s.points (drop start heights)) q.x ≡ relief s heights q = take_drop-at None start s.points q.x heights there
                  ∙ ap (λ k. value_at heights (k + q.x)) start_is in
                  record {
                    raised = plus number (relief s heights q);
                    greatest = IsRaisedBy-one_offset s e (relief s heights) p offset q number (record { column = there; profile = row_within }) p_inside o is_number;
                    is = rw value at (was.reached x q.x (omega (arith, width)) (omega (arith, size)) (omega arith));
                  }
              | inr past ↦ record {
                raised = None;
                greatest = IsRaisedBy-no_position s e (relief s heights) p offset
                    (λ from from_inside o. let across : from.x + offset.x ≡ x + e.width / 2 = o.across in let less : from.x < s.points = from_inside.column in omega arith);
                is = was.others x (λ from less e'. omega (arith, size)) ∙ sym (larger-none (value_at old x));
              }
            ]
          ];
    }

-- the place of an offset in the table of an element
abbrev place_in : ElementTable → Pos → ℕ
place_in e u = u.y * e.width + u.x

-- the values of a row are the greatest from the offsets before an index
pub record RowRaisedBefore (s : Size) (e : ElementTable) (f : Relief) (y index : ℕ) (row : List (Option ℤ)) : Type 0 where
  pub whole : length row ≡ s.points
  pub each : (x : ℕ) → x < s.points → IsGreatest (IsRaisedBy s e f (record { x = x; y = y }) (λ u. place_in e u < index)) (value_at row x)

pub RowRaisedBefore-none : (s : Size) (e : ElementTable) (f : Relief) (y : ℕ) (row : List (Option ℤ)) → IsBlankRow s row → RowRaisedBefore s e f y 0 row
RowRaisedBefore-none s e f y row blank = record { whole = blank.whole; each = λ x inside. rw (blank.each x) (IsGreatest-none _ (λ z r. omega (arith, r.chosen))) }

pub RowRaisedBefore-more : (s : Size) (e : ElementTable) (f : Relief) (y index : ℕ) (offset : Pos) (old new : List (Option ℤ)) → offset.x < e.width → place_in e offset ≡ index
    → RowRaisedBefore s e f y index old → IsRowRaisedOnce s e f y offset old new → RowRaisedBefore s e f y (index + 1) new
RowRaisedBefore-more s e f y index offset old new column place was once = record {
  whole = once.whole ∙ was.whole;
  each = λ x inside.
      let p : Pos = record { x = x; y = y } in
      let one = once.each x inside in
      rw one.is (IsGreatest-join (IsRaisedBy s e f p (λ u. place_in e u < index)) (IsRaisedBy s e f p (λ u. u ≡ offset)) (IsRaisedBy s e f p (λ u. place_in e u < index + 1))
      (value_at old x) one.raised
      (λ z r. record { is_raised = r.is_raised; chosen = omega (arith, r.chosen) })
      (λ z r. record { is_raised = r.is_raised; chosen = (let here : place_in e r.is_raised.links.offset ≡ place_in e offset = ap (place_in e) r.chosen in omega arith) })
      (λ z r. elim (cases_lt (place_in e r.is_raised.links.offset) index) [
        | inl less ↦ inl (record { is_raised = r.is_raised; chosen = less })
        | inr not ↦
            let u : Pos = r.is_raised.links.offset in
            let here : place_in e u ≡ place_in e offset = omega (arith, r.chosen) in
            let same = same_from_place u.y u.x offset.y offset.x e.width r.is_raised.links.is_offset.column column here in
            inr (record { is_raised = r.is_raised; chosen = same_pos u offset same.1 same.0 })
      ])
      (was.each x inside) one.greatest);
}

pub IsRowRaised-all : (s : Size) (e : ElementTable) (f : Relief) (y index : ℕ) (row : List (Option ℤ)) → e.width * e.height ≤ index → RowRaisedBefore s e f y index row → IsRowRaised s e f y row
IsRowRaised-all s e f y index row all was = record {
  whole = was.whole;
  each = λ x inside. IsGreatest-same_values (IsRaisedBy s e f (record { x = x; y = y }) (λ u. place_in e u < index)) (IsRaised s e f (record { x = x; y = y })) (value_at row x)
      (λ z r. r.is_raised)
      (λ z r. record { is_raised = r; chosen = omega (arith, mul-add-lt r.links.offset.y e.width r.links.offset.x e.height r.links.is_offset.row r.links.is_offset.column) })
      (was.each x inside);
}

-- the rows before y are raised
pub record RowsRaised (s : Size) (e : ElementTable) (f : Relief) (y : ℕ) (tops : List (Option ℤ)) : Type 0 where
  pub whole : length tops ≡ cell_count s
  pub done : (p : Pos) → InGrid s p → p.y < y → IsGreatest (IsRaised s e f p) (relief s tops p)
  pub left : (k : ℕ) → y * s.points ≤ k → value_at tops k ≡ None

pub RowsRaised-none : (s : Size) (e : ElementTable) (f : Relief) (tops : List (Option ℤ)) → AreBlank s tops → RowsRaised s e f 0 tops
RowsRaised-none s e f tops blank = record { whole = blank.whole; done = λ p inside less. absurd (omega arith); left = λ k past. blank.each k }

-- the next row stands for no height
pub RowsRaised-blank : (s : Size) (e : ElementTable) (f : Relief) (y k : ℕ) (tops : List (Option ℤ)) → y < s.profiles → k ≡ s.points → RowsRaised s e f y tops
    → IsBlankRow s (take k (drop (y * s.points) tops))
RowsRaised-blank s e f y k tops row width was =
    let last : (y + 1) * s.points ≤ s.profiles * s.points = mul-le-mul_right s.points (let h : y + 1 ≤ s.profiles = omega arith in h) in
    let size : length (take k (drop (y * s.points) tops)) ≡ k = take_drop-length (y * s.points) k tops (omega (arith, was.whole, last)) in
    record {
      whole = size ∙ width;
      each = λ x. elim (Option-some_or_none (value_at (take k (drop (y * s.points) tops)) x)) [
        | inl z ↦
            let inside : x < k = omega (arith, size, value_at-inside (take k (drop (y * s.points) tops)) x z.0 z.1) in
            take_drop-at None (y * s.points) k x tops inside ∙ was.left (y * s.points + x) (omega arith)
        | inr none ↦ none
      ];
    }

pub RowsRaised-more : (s : Size) (e : ElementTable) (f : Relief) (y k : ℕ) (tops part : List (Option ℤ)) → y < s.profiles → k ≡ s.points → RowsRaised s e f y tops → IsRowRaised s e f y part
    → RowsRaised s e f (y + 1) (put_mid (y * s.points) k tops part)
RowsRaised-more s e f y k tops part row width was raised =
    let last : (y + 1) * s.points ≤ s.profiles * s.points = mul-le-mul_right s.points (let h : y + 1 ≤ s.profiles = omega arith in h) in
    let room : y * s.points + k ≤ length tops = omega (arith, was.whole, last) in
    let size : length part ≡ k = raised.whole ∙ sym width in
    record {
      whole = put_mid-length (y * s.points) k tops part room size ∙ was.whole;
      done = λ p inside below. elim (cases_lt p.y y) [
        | inl before ↦
            let earlier : (p.y + 1) * s.points ≤ y * s.points = mul-le-mul_right s.points (let h : p.y + 1 ≤ y = omega arith in h) in
            let there : value_at (put_mid (y * s.points) k tops part) (place_of s p) ≡ value_at tops (place_of s p) =
            put_mid-before None (y * s.points) k (place_of s p) tops part room size (omega (arith, earlier, inside.column)) in
            rw there (was.done p inside before)
        | inr not ↦
            let same : p.y ≡ y = omega arith in
            let place : place_of s p ≡ y * s.points + p.x = ap (λ t. t * s.points + p.x) same in
            let there : value_at (put_mid (y * s.points) k tops part) (place_of s p) ≡ value_at part p.x =
            ap (value_at (put_mid (y * s.points) k tops part)) place ∙ put_mid-inside None (y * s.points) k p.x tops part room size (omega (arith, inside.column)) in
            let at : record { x = p.x; y = y } ≡ p = same_pos (record { x = p.x; y = y }) p refl (sym same) in
            rw there (subst (λ (q : Pos). IsGreatest (IsRaised s e f q) (value_at part p.x)) at (raised.each p.x inside.column))
      ];
      left = λ i above.
          let beyond : y * s.points + k ≤ i = omega arith in
          put_mid-after None (y * s.points) k i tops part room size beyond ∙ was.left i (omega arith);
    }

pub AreRaised-all : (s : Size) (e : ElementTable) (f : Relief) (y : ℕ) (tops : List (Option ℤ)) → s.profiles ≤ y → RowsRaised s e f y tops → AreRaised s e f tops
AreRaised-all s e f y tops all was = record { whole = was.whole; each = λ p inside. was.done p inside (omega (arith, inside.profile)) }

plus_zero : (v : Option ℤ) → plus (pos 0) v ≡ v
plus_zero (Some z) = ap Some (omega (arith, ints))
plus_zero None = refl

module _ {L : Type 0} (code : Encoding L) where
  -- a present point is raised at least from itself
  pub AreTopped-raised : (s : Size) (e : ElementTable) (heights : List L) (tops : List (Option ℤ)) → 1 ≤ s.points → IsElement e → HasNumbersWithin code.most_number e
      → ArePlain code s (most_between code) heights
      → AreRaised s e (relief s (values_of code heights)) tops → AreTopped (most_filtered code) (values_of code heights) tops
  AreTopped-raised s e heights tops some is numbers plain raised = record {
    whole = raised.whole ∙ sym plain.whole ∙ sym (values_of-length code heights);
    each = λ k z there.
        let p : Pos = position_at s k in
        let place : place_of s p ≡ k = position_at-place s k some in
        let inside : InGrid s p = position_at-inside s k some (omega (arith, value_at-inside (values_of code heights) k z there, values_of-length code heights, plain.whole)) in
        let o = HasOrigin-element e is in
        let height : relief s (values_of code heights) p ≡ Some z = rw place there in
        let top = (raised.each p inside).reached (z +ℤ o.number) (record { from = p; height = z; number = o.number; links = Links-centre s e o p inside; is_height = height; sum = refl }) in
        let r = (raised.each p inside).attained top.0 top.1 in
        let within = IsBounded-relief code s (most_between code) heights plain r.from r.links.from in
        let low = within.least r.height r.is_height in
        let high = within.greatest r.height r.is_height in
        let entry = numbers.each (r.links.offset.y * e.width + r.links.offset.x) in
        let low' = entry.least r.number r.links.is_number in
        let high' = entry.greatest r.number r.links.is_number in
        let sum : top.0 ≡ r.height +ℤ r.number = r.sum in
        record { number = top.0; is_number = rw place at top.1; least = omega (arith, ints); greatest = omega (arith, ints) };
  }

  -- raised tops, settled, are the dilation
  pub ArePlainlyFiltered-settled : (s : Size) (e : ElementTable) (heights : List L) (tops : List (Option ℤ)) (new : List L) → 1 ≤ s.points → IsElement e
      → HasNumbersWithin code.most_number e → ArePlain code s (most_between code) heights
      → AreRaised s e (relief s (values_of code heights)) tops → AreSettled code (values_of code heights) tops (pos 0) new → ArePlainlyFiltered code Dilation s e heights new
  ArePlainlyFiltered-settled s e heights tops new some is numbers plain raised settled =
      ArePlainlyFiltered-topped code s e heights tops new (pos 0) plain.whole (AreTopped-raised s e heights tops some is numbers plain raised) settled
      (λ p inside z there. rw (plus_zero (relief s tops p)) (raised.each p inside))
