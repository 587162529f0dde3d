-- Plain numbers whose places were settled, and their bounds.
use Rattle.std.proofs.Common.{◌≡◌, ◌<◌, ◌≤◌, ◌+◌, ◌*◌, ◌+ℤ◌, ◌-ℤ◌, ℕ, ℤ, List, length, Option, Some, None, inl, inr, ap, sym, ◌∙◌, arith}
use Rattle.std.proofs.lemmas.Int.{ints}
use Rattle.std.proofs.lemmas.Bool.{cases_lt}
use Rattle.std.proofs.lemmas.List.{get_or_past}
use Rattle.hd_map.specs.declared.types.Pos.{Pos}
use Rattle.hd_map.specs.declared.types.Size.{Size}
use Rattle.hd_map.specs.Map.{InGrid, place_of, position_at, cell_count}
use Rattle.hd_map.specs.Encoding.{Encoding, values_of, number_in, most_between, most_filtered}
use Rattle.hd_map.specs.Lanes.{IsBounded}
use Rattle.hd_map.proofs.Points.{place_inside, position_at-place, position_at-inside}
use Rattle.hd_morph.specs.Element.{ElementTable}
use Rattle.hd_morph.specs.Greatest.{IsGreatest}
use Rattle.hd_morph.specs.declared.filter.Filter.{Filter}
use Rattle.hd_morph.specs.declared.filter.Filter.TheVariants.{Dilation, Erosion, Opening, Closing}
use Rattle.hd_morph.specs.Filter.{Relief, IsRaised, IsLowered, IsDilation, IsErosion}
use Rattle.hd_morph.specs.Plain.{value_at, relief, ArePlain, HasNumbersWithin}
use Rattle.hd_morph.specs.Raised.{ArePlainlyFiltered, AreTopped, IsSettled, AreSettled, plus}
use Rattle.hd_morph.proofs.Encodings.{value_at-number_in, values_of-length}
use Rattle.hd_morph.proofs.PlainNumbers.{Option-some_or_none, ArePlain-more, IsBounded-relief}

module _ {L : Type 0} (code : Encoding L) where
  -- what settled tops are, in one step with what they were made for
  pub ArePlainlyFiltered-topped : (s : Size) (e : ElementTable) (heights : List L) (tops : List (Option ℤ)) (new : List L) (number : ℤ) → length heights ≡ cell_count s
      → AreTopped (most_filtered code) (values_of code heights) tops → AreSettled code (values_of code heights) tops number new
      → ((p : Pos) → InGrid s p → (z : ℤ) → relief s (values_of code heights) p ≡ Some z → IsGreatest (IsRaised s e (relief s (values_of code heights)) p) (plus number (relief s tops p)))
      → ArePlainlyFiltered code Dilation s e heights new
  ArePlainlyFiltered-topped s e heights tops new number whole topped settled fits =
      let size : length tops ≡ cell_count s = topped.whole ∙ values_of-length code heights ∙ whole in
      let settled_at : (k : ℕ) → k < cell_count s → IsSettled code (value_at (values_of code heights) k) (value_at tops k) number (number_in code new k) = λ k below. settled.each k
      (omega (arith, size)) in
      record {
        whole = settled.whole ∙ size;
        filtered = record {
          present = λ p inside z is.
              let k : ℕ = place_of s p in
              let value : value_at (values_of code new) k ≡ plus number (value_at tops k) = value_at-number_in code new k ∙ (settled_at k (place_inside s p inside)).present z is in
              rw value (fits p inside z is);
          absent = λ p inside none.
              let k : ℕ = place_of s p in
              value_at-number_in code new k ∙ ap code.shown ((settled_at k (place_inside s p inside)).absent none) ∙ code.missing_none;
        };
        absent = λ k none. elim (cases_lt k (cell_count s)) [
          | inl below ↦ elim (Option-some_or_none (value_at (values_of code heights) k)) [
            | inl z ↦
                let within = topped.each k z.0 z.1 in
                let there : plus number (value_at tops k) ≡ Some (within.number +ℤ number) = rw within.is_number in
                let e : None ≡ Some (within.number +ℤ number) = sym none ∙ (settled_at k below).present z.0 z.1 ∙ there in
                cc
            | inr gone ↦ (settled_at k below).absent gone
          ]
          | inr past ↦ get_or_past new k code.missing (omega (arith, settled.whole, size))
        ];
      }

  -- heights that are bounded at each position, with `missing` elsewhere, are plain
  pub ArePlain-bounded : (filter : Filter) (s : Size) (e : ElementTable) (n : ℕ) (old new : List L) → 1 ≤ s.points → ArePlainlyFiltered code filter s e old new
      → ((p : Pos) → InGrid s p → IsBounded n (relief s (values_of code new) p)) → ArePlain code s n new
  ArePlain-bounded filter s e n old new some made within = record {
    whole = made.whole;
    plain = record {
      each = λ k. record {
        bounded = elim (cases_lt k (cell_count s)) [
          | inl below ↦
              let place : place_of s (position_at s k) ≡ k = position_at-place s k some in
              let value : IsBounded n (value_at (values_of code new) k) = rw place at (within (position_at s k) (position_at-inside s k some below)) in
              rw (value_at-number_in code new k) at value
          | inr past ↦
              let none : code.shown (number_in code new k) ≡ None = ap code.shown (get_or_past new k code.missing (omega (arith, made.whole))) ∙ code.missing_none in
              record { least = λ z is. let e : None ≡ Some z = sym none ∙ is in cc; greatest = λ z is. let e : None ≡ Some z = sym none ∙ is in cc }
        ];
        absent = made.absent k;
      };
    };
  }

-- a dilation of bounded heights by bounded numbers is bounded
pub IsBounded-dilation : (s : Size) (e : ElementTable) (m n : ℕ) (f g : Relief) → HasNumbersWithin n e → ((p : Pos) → InGrid s p → IsBounded m (f p)) → IsDilation s e f g
    → (p : Pos) → InGrid s p → IsBounded (m + n) (g p)
IsBounded-dilation s e m n f g numbers within raised p inside = record {
  least = λ z there.
      let r = found z there in
      let h = (within r.from r.links.from).least r.height r.is_height in
      let b = (numbers.each (r.links.offset.y * e.width + r.links.offset.x)).least r.number r.links.is_number in
      let sum : z ≡ r.height +ℤ r.number = r.sum in
      omega (arith, ints);
  greatest = λ z there.
      let r = found z there in
      let h = (within r.from r.links.from).greatest r.height r.is_height in
      let b = (numbers.each (r.links.offset.y * e.width + r.links.offset.x)).greatest r.number r.links.is_number in
      let sum : z ≡ r.height +ℤ r.number = r.sum in
      omega (arith, ints);
} where
  found : (z : ℤ) → g p ≡ Some z → IsRaised s e f p z
  found z there = elim (Option-some_or_none (f p)) [
    | inl some ↦ (raised.present p inside some.0 some.1).attained z there
    | inr none ↦ let e : None ≡ Some z = sym (raised.absent p inside none) ∙ there in cc
  ]

-- an erosion of bounded heights by bounded numbers is bounded
pub IsBounded-erosion : (s : Size) (e : ElementTable) (m n : ℕ) (f g : Relief) → HasNumbersWithin n e → ((p : Pos) → InGrid s p → IsBounded m (f p)) → IsErosion s e f g → (p : Pos)
    → InGrid s p → IsBounded (m + n) (g p)
IsBounded-erosion s e m n f g numbers within lowered p inside = record {
  least = λ z there.
      let r = found z there in
      let h = (within r.to r.links.to).least r.height r.is_height in
      let b = (numbers.each (r.links.offset.y * e.width + r.links.offset.x)).greatest r.number r.links.is_number in
      let sum : z ≡ r.height -ℤ r.number = r.difference in
      omega (arith, ints);
  greatest = λ z there.
      let r = found z there in
      let h = (within r.to r.links.to).greatest r.height r.is_height in
      let b = (numbers.each (r.links.offset.y * e.width + r.links.offset.x)).least r.number r.links.is_number in
      let sum : z ≡ r.height -ℤ r.number = r.difference in
      omega (arith, ints);
} where
  found : (z : ℤ) → g p ≡ Some z → IsLowered s e f p z
  found z there = elim (Option-some_or_none (f p)) [
    | inl some ↦ (lowered.present p inside some.0 some.1).attained z there
    | inr none ↦ let e : None ≡ Some z = sym (lowered.absent p inside none) ∙ there in cc
  ]

module _ {L : Type 0} (code : Encoding L) where
  -- what was dilated is plain, within more
  pub ArePlain-dilated : (s : Size) (e : ElementTable) (m n : ℕ) (old new : List L) → 1 ≤ s.points → HasNumbersWithin n e → ArePlain code s m old
      → ArePlainlyFiltered code Dilation s e old new → ArePlain code s (m + n) new
  ArePlain-dilated s e m n old new some numbers plain made =
      ArePlain-bounded code Dilation s e (m + n) old new some made (IsBounded-dilation s e m n (relief s (values_of code old)) (relief s (values_of code new)) numbers
      (IsBounded-relief code s m old plain) made.filtered)

  -- and so is what was eroded
  pub ArePlain-eroded : (s : Size) (e : ElementTable) (m n : ℕ) (old new : List L) → 1 ≤ s.points → HasNumbersWithin n e → ArePlain code s m old
      → ArePlainlyFiltered code Erosion s e old new → ArePlain code s (m + n) new
  ArePlain-eroded s e m n old new some numbers plain made =
      ArePlain-bounded code Erosion s e (m + n) old new some made (IsBounded-erosion s e m n (relief s (values_of code old)) (relief s (values_of code new)) numbers
      (IsBounded-relief code s m old plain) made.filtered)

  -- whatever a filter makes of plain heights is plain, within more
  pub ArePlain-filtered : (filter : Filter) (s : Size) (e : ElementTable) (old new : List L) → 1 ≤ s.points → HasNumbersWithin code.most_number e
      → ArePlain code s code.most_height old → ArePlainlyFiltered code filter s e old new → ArePlain code s (most_filtered code) new
  ArePlain-filtered Dilation s e old new some numbers plain made =
      ArePlain-more code s (most_between code) (most_filtered code) new (omega arith) (ArePlain-dilated s e code.most_height code.most_number old new some numbers plain made)
  ArePlain-filtered Erosion s e old new some numbers plain made =
      ArePlain-more code s (most_between code) (most_filtered code) new (omega arith) (ArePlain-eroded s e code.most_height code.most_number old new some numbers plain made)
  ArePlain-filtered Opening s e old new some numbers plain made =
      let f = made.filtered in
      ArePlain-bounded code Opening s e (most_filtered code) old new some made
      (IsBounded-dilation s e (most_between code) code.most_number f.between (relief s (values_of code new)) numbers
      (IsBounded-erosion s e code.most_height code.most_number (relief s (values_of code old)) f.between numbers (IsBounded-relief code s code.most_height old plain) f.first) f.second)
  ArePlain-filtered Closing s e old new some numbers plain made =
      let f = made.filtered in
      ArePlain-bounded code Closing s e (most_filtered code) old new some made
      (IsBounded-erosion s e (most_between code) code.most_number f.between (relief s (values_of code new)) numbers
      (IsBounded-dilation s e code.most_height code.most_number (relief s (values_of code old)) f.between numbers (IsBounded-relief code s code.most_height old plain) f.first) f.second)
