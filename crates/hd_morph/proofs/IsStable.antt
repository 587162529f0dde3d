-- A filter on the map with its own cells.
use Rattle.std.proofs.Common.{◌≡◌, ℤ, List, Bool, true, false, Some, None, inl, inr, refl, ap, sym, ◌∙◌}
use Rattle.hd_map.specs.declared.types.Cell.{Cell}
use Rattle.hd_map.specs.declared.types.Cell.TheVariants.{Height, Bad}
use Rattle.hd_map.specs.Map.{Map, cell_at, mask_at, shown_height}
use Rattle.hd_morph.specs.Element.{ElementTable}
use Rattle.hd_morph.specs.declared.filter.Filter.{Filter}
use Rattle.hd_morph.specs.declared.filter.Filter.TheVariants.{Opening, Closing}
use Rattle.hd_morph.specs.Filter.{Relief, IsFiltered, relief_of}
use Rattle.hd_morph.specs.Compare.{HaveSamePoints, AreSame}
use Rattle.hd_morph.specs.Answer.{AreCellsWith, AreFilteredCells, IsStable, with_cells}
use Rattle.hd_morph.proofs.Adjunction.{HasOrigin-element, HaveSamePoints-opening, HaveSamePoints-closing, IsOpening-of_itself, IsClosing-of_itself}
use Rattle.hd_morph.proofs.Determined.{IsFiltered-of_same}
use Rattle.hd_morph.proofs.PlainNumbers.{Option-some_or_none}

-- a shown height is not masked
shown_mask : (c : Cell) (masked : Bool) (z : ℤ) → shown_height c masked ≡ Some z → masked ≡ false
shown_mask (Height h) false z e = refl
shown_mask (Height h) true z e = let e' : None ≡ Some z = e in cc
shown_mask Bad masked z e = let e' : None ≡ Some z = e in cc

-- the heights of the map with its cells filtered are the filtered ones
new_relief : (m : Map) (g : Relief) (cells : List Cell) → HaveSamePoints m.size (relief_of m) g → AreCellsWith m g cells → AreSame m.size g (relief_of (with_cells m cells))
new_relief m g cells same are p inside = elim (Option-some_or_none (g p)) [
  | inl z ↦
      let was = same.back p inside z.0 z.1 in
      let clear : mask_at m p ≡ false = shown_mask (cell_at m p) (mask_at m p) was.0 was.1 in
      let cell : cell_at (with_cells m cells) p ≡ Height z.0 = are.present p inside z.0 z.1 in
      let there : shown_height (cell_at (with_cells m cells) p) (mask_at m p) ≡ Some z.0 = rw (cell, clear) in
      z.1 ∙ sym there
  | inr none ↦
      let cell : cell_at (with_cells m cells) p ≡ cell_at m p = are.absent p inside none in
      let gone : relief_of m p ≡ None = (elim (Option-some_or_none (relief_of m p)) [
        | inl z ↦ let there = same.there p inside z.0 z.1 in let e : None ≡ Some there.0 = sym none ∙ there.1 in cc
        | inr gone ↦ gone
      ]) in
      none ∙ sym gone ∙ sym (ap (λ c. shown_height c (mask_at m p)) cell)
]

-- a filter that keeps the points, and is one of its own result, is stable
stable_of : (filter : Filter) (m : Map) (e : ElementTable) (cells : List Cell) → ((f g : Relief) → IsFiltered filter m.size e f g → HaveSamePoints m.size f g)
    → ((f g : Relief) → IsFiltered filter m.size e f g → IsFiltered filter m.size e g g) → AreFilteredCells filter m e cells → AreFilteredCells filter (with_cells m cells) e cells
stable_of filter m e cells points itself once = record {
  heights = once.heights;
  filtered = IsFiltered-of_same filter m.size e once.heights (relief_of (with_cells m cells)) once.heights
      (new_relief m once.heights cells (points (relief_of m) once.heights once.filtered) once.are_cells) (itself (relief_of m) once.heights once.filtered);
  are_cells = record { whole = once.are_cells.whole; present = once.are_cells.present; absent = λ p inside none. refl; of_type = once.are_cells.of_type };
}

pub IsStable-opening : IsStable Opening
IsStable-opening m e cells is once = stable_of Opening m e cells (λ f g was. HaveSamePoints-opening m.size e f g (HasOrigin-element e is) was)
    (λ f g was. IsOpening-of_itself m.size e f g (HasOrigin-element e is) was) once

pub IsStable-closing : IsStable Closing
IsStable-closing m e cells is once = stable_of Closing m e cells (λ f g was. HaveSamePoints-closing m.size e f g (HasOrigin-element e is) was)
    (λ f g was. IsClosing-of_itself m.size e f g (HasOrigin-element e is) was) once
