-- Borders that stand at the slots of their greater places.
use Rattle.std.proofs.Common.{◌≡◌, ◌≢◌, ◌<◌, ◌≤◌, ◌∙◌, ℕ, inl, inr, List, [], ◌∷◌, ◌++◌, length, get_or, set, slice_get, Some, sym, ap, arith}
use Rattle.std.specs.Prelude.{AllPairs}
use Rattle.std.proofs.lemmas.Option.{get_or_from_slice_get, same_Some, slice_get_within}
use Rattle.hd_map.proofs.Apart.{length-le_from_apart}
use Rattle.hd_map.proofs.Places.{get-push_cases, get-set_other, get-set_same, item_at, pairs_from_places, place_of}
use Rattle.hd_steep.specs.declared.border.Border.{Border}
use Rattle.hd_steep.specs.Found.{AreIndexed}

module _ (slots : List ℕ) (borders : List Border) (indexed : AreIndexed slots borders) where
  -- no two have one greater place
  pub indexed-once : (i j : ℕ) (x y : Border) → slice_get borders i ≡ Some x → slice_get borders j ≡ Some y → x.b ≡ y.b → i ≡ j
  indexed-once i j x y at_x at_y e = same_Some i j (sym (indexed i x at_x) ∙ ap (slice_get slots) e ∙ indexed j y at_y)

  pub indexed-apart : AllPairs (λ x y. x.b ≢ y.b) borders
  indexed-apart = pairs_from_places (λ (l : Border). l.b) borders indexed-once

  -- so there are no more than slots
  pub indexed-few : length borders ≤ length slots
  indexed-few = length-le_from_apart (λ (l : Border). l.b) (length slots) borders indexed-apart (λ l at. (let k = place_of borders l at in slice_get_within slots l.b k.0 (indexed k.0 l k.1)))

  -- where the border at the slot of a place is of another one, or there is none, no border is of that place
  pub slot-none : (b slot : ℕ) (d : Border) → slice_get slots b ≡ Some slot → (slot < length borders → (get_or borders slot d).b ≢ b) → (k : ℕ) (l : Border)
      → slice_get borders k ≡ Some l → l.b ≡ b → ⊥
  slot-none b slot d there other k l at e =
      let same : slot ≡ k = same_Some slot k (sym there ∙ ap (slice_get slots) (sym e) ∙ indexed k l at) in
      let inside : k < length borders = slice_get_within borders k l at in
      let is : get_or borders slot d ≡ l = ap (λ i. get_or borders i d) same ∙ get_or_from_slice_get borders k l d at in
      other (omega arith) (ap (λ (z : Border). z.b) is ∙ e)

  -- a border of a new greater place is added
  pub indexed-push : (b : ℕ) (x : Border) → b < length slots → x.b ≡ b → ((k : ℕ) (l : Border) → slice_get borders k ≡ Some l → l.b ≡ b → ⊥)
      → AreIndexed (set slots b (length borders)) (borders ++ x ∷ [])
  indexed-push b x inside is none k l at = elim (get-push_cases borders x l k at) [
    | inl old ↦ get-set_other slots b l.b (length borders) (λ e. none k l old (sym e)) ∙ indexed k l old
    | inr new ↦ (let slot = item_at slots b inside in
        ap (λ (z : Border). slice_get (set slots b (length borders)) z.b) (sym new.1) ∙ ap (slice_get (set slots b (length borders))) is
        ∙ get-set_same slots b (length borders) slot.0 slot.1 ∙ ap Some (sym new.0))
  ]
