-- Heights that stand at the same places.
use Rattle.std.proofs.Common.{◌≡◌, ◌<◌, ◌≤◌, ℕ, ℤ, List, length, Option, Some, None, inl, inr, ap, sym, ◌∙◌, arith}
use Rattle.hd_map.specs.declared.types.Size.{Size}
use Rattle.hd_map.specs.Map.{cell_count, place_of, position_at}
use Rattle.hd_map.specs.Encoding.{Encoding, values_of}
use Rattle.hd_map.specs.Lanes.{minus}
use Rattle.hd_map.proofs.Points.{position_at-inside, position_at-place}
use Rattle.hd_morph.specs.Element.{ElementTable, IsElement}
use Rattle.hd_morph.specs.declared.filter.Filter.TheVariants.{Dilation, Erosion}
use Rattle.hd_morph.specs.Compare.{HaveSamePoints}
use Rattle.hd_morph.specs.Plain.{StandAlike, relief, value_at}
use Rattle.hd_morph.specs.Raised.{ArePlainlyFiltered, AreSettled, AreTopped}
use Rattle.hd_morph.specs.Turned.{AreNegated}
use Rattle.hd_morph.proofs.Adjunction.{HaveSamePoints-dilation, HaveSamePoints-erosion, HasOrigin-element}
use Rattle.hd_morph.proofs.Encodings.{values_of-length, value_at-number_in}
use Rattle.hd_morph.proofs.PlainNumbers.{value_at-inside, Option-some_or_none}
use Rattle.hd_morph.proofs.Turned.{minus-of, minus-some}

-- a list stands as itself does
pub StandAlike-itself : (f g : List (Option ℤ)) → g ≡ f → StandAlike f g
StandAlike-itself f g same = record {
  whole = ap (λ (xs : List (Option ℤ)). length xs) same;
  there = λ k z is. (z, ap (λ (xs : List (Option ℤ)). value_at xs k) same ∙ is);
  back = λ k z is. (z, ap (λ (xs : List (Option ℤ)). value_at xs k) (sym same) ∙ is);
}

-- tops of heights that stand alike are tops of either
pub AreTopped-alike : (n : ℕ) (f g tops : List (Option ℤ)) → StandAlike f g → AreTopped n g tops → AreTopped n f tops
AreTopped-alike n f g tops alike topped = record {
  whole = topped.whole ∙ alike.whole;
  each = λ k z is. let there = alike.there k z is in topped.each k there.0 there.1;
}

-- where none stands in one, none does in the other
none_back : (f g : List (Option ℤ)) (k : ℕ) → StandAlike f g → value_at g k ≡ None → value_at f k ≡ None
none_back f g k alike none = elim (Option-some_or_none (value_at f k)) [
  | inl some ↦ let there = alike.there k some.0 some.1 in let e : None ≡ Some there.0 = sym none ∙ there.1 in cc
  | inr gone ↦ gone
]

-- at the points of a relief that keeps them
module _ (s : Size) (f g h : List (Option ℤ)) (some : 1 ≤ s.points) (whole : length g ≡ cell_count s) (whole' : length h ≡ cell_count s) where
  pub StandAlike-points : StandAlike f g → HaveSamePoints s (relief s g) (relief s h) → StandAlike f h
  StandAlike-points alike same = record {
    whole = whole' ∙ sym whole ∙ alike.whole;
    there = λ k z is.
        let y = alike.there k z is in
        let below : k < cell_count s = omega (arith, value_at-inside g k y.0 y.1, whole) in
        let place : place_of s (position_at s k) ≡ k = position_at-place s k some in
        let found = same.there (position_at s k) (position_at-inside s k some below) y.0 (ap (value_at g) place ∙ y.1) in
        (found.0, ap (value_at h) (sym place) ∙ found.1);
    back = λ k z is.
        let below : k < cell_count s = omega (arith, value_at-inside h k z is, whole') in
        let place : place_of s (position_at s k) ≡ k = position_at-place s k some in
        let found = same.back (position_at s k) (position_at-inside s k some below) z (ap (value_at h) place ∙ is) in
        alike.back k found.0 (ap (value_at g) (sym place) ∙ found.1);
  }

module _ {L : Type 0} (code : Encoding L) where
  -- places that are settled by heights that stand alike are settled by either
  pub AreSettled-alike : (f g tops : List (Option ℤ)) (number : ℤ) (new : List L) → StandAlike f g → AreSettled code f tops number new → AreSettled code g tops number new
  AreSettled-alike f g tops number new alike settled = record {
    whole = settled.whole;
    each = λ k below. record {
      present = λ z is. let back = alike.back k z is in (settled.each k below).present back.0 back.1;
      absent = λ none. (settled.each k below).absent (none_back f g k alike none);
    };
  }

  -- negated numbers stand where the numbers do
  pub StandAlike-negated : (f : List (Option ℤ)) (old new : List L) → StandAlike f (values_of code old) → AreNegated code old new → StandAlike f (values_of code new)
  StandAlike-negated f old new alike negated =
      let value : (k : ℕ) → value_at (values_of code new) k ≡ minus (value_at (values_of code old) k) = λ k.
      value_at-number_in code new k ∙ (negated.each k).value ∙ sym (ap minus (value_at-number_in code old k)) in
      record {
        whole = values_of-length code new ∙ negated.whole ∙ sym (values_of-length code old) ∙ alike.whole;
        there = λ k z is. let there = alike.there k z is in (_, value k ∙ minus-of (value_at (values_of code old) k) there.0 there.1);
        back = λ k z is. let was = minus-some (value_at (values_of code old) k) z (sym (value k) ∙ is) in alike.back k _ was;
      }

  module _ (s : Size) (e : ElementTable) (f old new : List L) (some : 1 ≤ s.points) (is : IsElement e) (whole : length old ≡ cell_count s) where
    -- dilated heights stand where the heights do
    pub StandAlike-dilated : StandAlike (values_of code f) (values_of code old) → ArePlainlyFiltered code Dilation s e old new → StandAlike (values_of code f) (values_of code new)
    StandAlike-dilated alike made = StandAlike-points s (values_of code f) (values_of code old) (values_of code new) some (values_of-length code old ∙ whole)
        (values_of-length code new ∙ made.whole) alike
        (HaveSamePoints-dilation s e (relief s (values_of code old)) (relief s (values_of code new)) (HasOrigin-element e is) made.filtered)

    -- and so do eroded ones
    pub StandAlike-eroded : StandAlike (values_of code f) (values_of code old) → ArePlainlyFiltered code Erosion s e old new → StandAlike (values_of code f) (values_of code new)
    StandAlike-eroded alike made = StandAlike-points s (values_of code f) (values_of code old) (values_of code new) some (values_of-length code old ∙ whole)
        (values_of-length code new ∙ made.whole) alike
        (HaveSamePoints-erosion s e (relief s (values_of code old)) (relief s (values_of code new)) (HasOrigin-element e is) made.filtered)
