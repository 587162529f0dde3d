-- Numbers of which each above a floor stands for itself, raised and held against a range.
use Rattle.std.proofs.Common.{◌≡◌, ◌≤ℤ◌, ◌<ℤ◌, ◌+◌, ◌+ℤ◌, ◌↔◌, ◌&&◌, ◌||◌, not, IsTrue, is_some, Bool, true, false, ℤ, pos, neg_ℤ, Some, None, refl, ap, sym, ◌∙◌, arith}
use Rattle.std.specs.Prelude.{int_le}
use Rattle.std.proofs.lemmas.Int.{ints, by_lt_z}
use Rattle.std.proofs.lemmas.Bool.{and_from, and_parts}
use Rattle.hd_map.specs.Encoding.{Encoding, shown_over, most_filtered}
use Rattle.hd_map.specs.Lanes.{IsPlainNumber}
use Rattle.hd_map.proofs.Lanes.{shown_above, shown_below, above_floor, below_floor}
use Rattle.hd_morph.specs.Plain.{IsBetween}
use Rattle.hd_morph.specs.Raised.{plus}

-- whether a number is from a least to a greatest one, by limits that are right for heights
pub IsBetween-tested : (floor z least greatest low high : ℤ) (shown : Bool) → shown ≡ is_some (shown_over floor z) → (floor <ℤ z → (low ≤ℤ z) ↔ (least ≤ℤ z))
    → (floor <ℤ z → (z ≤ℤ high) ↔ (z ≤ℤ greatest))
    → IsTrue (not shown || (int_le low z && int_le z high)) ↔ IsBetween least greatest (shown_over floor z)
IsBetween-tested floor z least greatest low high shown is from to = by_lt_z floor z
    (λ above.
    let some : shown_over floor z ≡ Some z = shown_above floor z above in
    let there : shown ≡ true = is ∙ ap is_some some in
    rw there (
      (λ both w at.
          let same : Some z ≡ Some w = sym some ∙ at in
          let here : z ≡ w = cc in
          let parts = and_parts (int_le low z) (int_le z high) both in
          let down : low ≤ℤ z = omega (arith, ints) in
          let up : z ≤ℤ high = omega (arith, ints) in
          rw (sym here) ((from above).0 down, (to above).0 up)),
      (λ between.
          let within = between z some in
          let down : low ≤ℤ z = (from above).1 within.0 in
          let up : z ≤ℤ high = (to above).1 within.1 in
          let first : int_le low z ≡ true = grind (arith, ints) in
          let last : int_le z high ≡ true = grind (arith, ints) in
          and_from (int_le low z) (int_le z high) first last),
    ))
    (λ below.
    let none : shown_over floor z ≡ None = shown_below floor z below in
    let gone : shown ≡ false = is ∙ ap is_some none in
    (λ _ w at. let never : None ≡ Some w = sym none ∙ at in cc, λ _. rw gone refl))

-- a plain number plus a number of an element stands for the height plus that number
pub plus-raised : (code : Encoding ℤ) (floor : ℤ) (over : (z : ℤ) → code.shown z ≡ shown_over floor z) (z number new : ℤ) → (code.missing +ℤ pos code.most_number) ≤ℤ floor
    → floor <ℤ neg_ℤ (pos (most_filtered code + code.most_number)) → IsPlainNumber code (most_filtered code) z
    → neg_ℤ (pos code.most_number) ≤ℤ number → number ≤ℤ pos code.most_number → new ≡ z +ℤ number → code.shown new ≡ plus number (code.shown z)
plus-raised code floor over z number new low room plain least greatest is = by_lt_z floor z
    (λ above.
    let some : code.shown z ≡ Some z = above_floor code floor over z above in
    let from = plain.bounded.least z some in
    let new_above : floor <ℤ new = omega (arith, ints) in
    above_floor code floor over new new_above ∙ ap Some is ∙ sym (ap (plus number) some))
    (λ below.
    let none : code.shown z ≡ None = below_floor code floor over z below in
    let gone : z ≡ code.missing = plain.absent none in
    let new_below : new ≤ℤ floor = omega (arith, ints) in
    below_floor code floor over new new_below ∙ sym (ap (plus number) none))
