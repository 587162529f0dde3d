-- Numbers of which each above a floor stands for itself.
use Rattle.std.proofs.Common.{◌≡◌, ◌≤◌, ◌≤ℤ◌, ◌<ℤ◌, ◌<◌, ℕ, ℤ, pos, neg_ℤ, Bool, true, false, List, length, get_or, Option, Some, None, inl, inr, ap, sym, ◌∙◌, arith}
use Rattle.std.specs.Prelude.{int_lt}
use Rattle.std.proofs.lemmas.Bool.{cases_lt}
use Rattle.std.proofs.lemmas.Int.{ints, by_lt_z}
use Rattle.std.proofs.lemmas.List.{get_or_past, get_or-map}
use Rattle.hd_map.specs.declared.types.Cell.{Cell}
use Rattle.hd_map.specs.declared.types.Cell.TheVariants.{Height, Bad}
use Rattle.hd_map.specs.declared.types.Pos.{Pos}
use Rattle.hd_map.specs.Encoding.{Encoding, shown_over, most_filtered, values_of, wide}
use Rattle.hd_map.specs.Lanes.{IsBounded, IsFarProfile, IsPlainHeight, IsPlainNumber, IsNegated, minus}
use Rattle.hd_map.specs.Map.{IsMap, Map, cell_at, greatest_height, height_at, least_height, mask_at, place_of, shown_height}
use Rattle.hd_map.proofs.DataTypes.{type_limits}

-- a number above the floor is a height
pub shown_above : (floor z : ℤ) → floor <ℤ z → shown_over floor z ≡ Some z
shown_above floor z above = let test : int_lt floor z ≡ true = grind (arith, ints) in rw test

-- a number not above the floor is none
pub shown_below : (floor z : ℤ) → z ≤ℤ floor → shown_over floor z ≡ None
shown_below floor z below = let test : int_lt floor z ≡ false = grind (arith, ints) in rw test

module _ (code : Encoding ℤ) (floor : ℤ) (over : (z : ℤ) → code.shown z ≡ shown_over floor z) where
  pub above_floor : (z : ℤ) → floor <ℤ z → code.shown z ≡ Some z
  above_floor z above = over z ∙ shown_above floor z above

  pub below_floor : (z : ℤ) → z ≤ℤ floor → code.shown z ≡ None
  below_floor z below = over z ∙ shown_below floor z below

  -- the negative of a height
  pub negated_height : (z new : ℤ) → floor <ℤ neg_ℤ (pos (most_filtered code)) → floor <ℤ z → IsBounded (most_filtered code) (code.shown z) → new ≡ neg_ℤ z → IsNegated code z new
  negated_height z new room above within is =
      let some : code.shown z ≡ Some z = above_floor z above in
      let most = within.greatest z some in
      let new_above : floor <ℤ new = omega (arith, ints) in
      record {
        value = above_floor new new_above ∙ ap Some is ∙ sym (ap minus some);
        absent = λ none. let e : None ≡ Some z = sym none ∙ some in cc;
      }

  -- a plain number lies between `missing` and its bound
  pub plain_bounds : (z : ℤ) → code.missing ≤ℤ floor → floor <ℤ neg_ℤ (pos (most_filtered code)) → IsPlainNumber code (most_filtered code) z → (code.missing ≤ℤ z) × (z ≤ℤ pos (most_filtered code))
  plain_bounds z low room plain = by_lt_z floor z
      (λ above. let most = plain.bounded.greatest z (above_floor z above) in (omega (arith, ints), most))
      (λ below. let is : z ≡ code.missing = plain.absent (below_floor z below) in (omega (arith, ints), omega (arith, ints)))

  -- a number not too far from zero stands for itself
  pub near_number : (z new : ℤ) → floor <ℤ neg_ℤ (pos code.most_height) → neg_ℤ (pos code.most_height) ≤ℤ z → z ≤ℤ pos code.most_height → new ≡ z → IsPlainHeight code (Some z) new
  near_number z new room least greatest is =
      let above : floor <ℤ new = omega (arith, ints) in
      let some : code.shown new ≡ Some z = above_floor new above ∙ ap Some is in
      record {
        is = some;
        plain = record {
          bounded = record {
            least = λ w e. let same : Some z ≡ Some w = sym some ∙ e in let here : z ≡ w = cc in rw (sym here) least;
            greatest = λ w e. let same : Some z ≡ Some w = sym some ∙ e in let here : z ≡ w = cc in rw (sym here) greatest;
          };
          absent = λ none. let e : None ≡ Some z = sym none ∙ some in cc;
        };
      }

-- what is within a bound is within any greater one
pub IsBounded-more : (n k : ℕ) (value : Option ℤ) → n ≤ k → IsBounded n value → IsBounded k value
IsBounded-more n k value up within = record {
  least = λ z is. let low = within.least z is in omega (arith, ints);
  greatest = λ z is. let high = within.greatest z is in omega (arith, ints);
}

-- a plain number is plain for any greater bound
pub IsPlainNumber-more : {L : Type 0} (code : Encoding L) (n k : ℕ) (number : L) → n ≤ k → IsPlainNumber code n number → IsPlainNumber code k number
IsPlainNumber-more code n k number up plain = record { bounded = IsBounded-more n k (code.shown number) up plain.bounded; absent = plain.absent }

-- a height that shows is that of the cell
cell_of_shown : (c : Cell) (masked : Bool) (z : ℤ) → shown_height c masked ≡ Some z → c ≡ Height z
cell_of_shown (Height h) false z is = cc
cell_of_shown (Height h) true z is = absurd (cc is)
cell_of_shown Bad masked z is = absurd (cc is)

-- each height of a map is of its data type
height_of_type : (m : Map) (p : Pos) (z : ℤ) → IsMap m → height_at m p ≡ Some z → (least_height m.data_type ≤ℤ z) × (z ≤ℤ greatest_height m.data_type)
height_of_type m p z whole is =
    let here = cell_of_shown (cell_at m p) (mask_at m p) z is in
    elim (cases_lt (place_of m.size p) (length m.cells)) [
      | inl inside ↦ whole.heights (place_of m.size p) inside z here
      | inr past ↦ absurd (let none : cell_at m p ≡ Bad = get_or_past m.cells (place_of m.size p) Bad past in cc)
    ]

-- each height of a map is near enough to zero for numbers of 64 bits
pub height_near : (m : Map) (p : Pos) → IsMap m → IsBounded wide.most_height (height_at m p)
height_near m p whole =
    let limits = type_limits m.data_type in
    let within = λ (z : ℤ) (is : height_at m p ≡ Some z). height_of_type m p z whole is in
    record {
      least = λ z is. let low = (within z is).0 in omega (arith, ints, limits.0, low);
      greatest = λ z is. let high = (within z is).1 in omega (arith, ints, limits.2, high);
    }

-- so none of its profiles is far for them
pub wide_never_far : (m : Map) (y : ℕ) → IsMap m → IsFarProfile wide m y → ⊥
wide_never_far m y whole far = far.beyond (height_near m (record { x = far.column; y = y }) whole)

-- the height for which a number of a row stands is the one by column
pub value_in : {L : Type 0} (code : Encoding L) (row : List L) (x : ℕ) (number : L) → x < length row → number ≡ get_or row x number → code.shown number ≡ get_or (values_of code row) x None
value_in code row x number inside is = ap code.shown is ∙ sym (get_or-map code.shown row x number None inside)
