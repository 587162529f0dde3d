-- A stroke that raises a rectangle, as new heights.
use Rattle.std.proofs.Common.{◌≡◌, ◌<◌, ℕ, ℤ, Bool, true, false, List, Option, Some, None, Ok, refl, sym, ap, subst, ◌∙◌, arith}
use Rattle.std.proofs.lemmas.Bool.{true≢false}
use Rattle.hd_map.specs.declared.types.Pos.{Pos}
use Rattle.hd_map.specs.declared.types.Cell.{Cell}
use Rattle.hd_map.specs.declared.types.Cell.TheVariants.{Height, Bad}
use Rattle.hd_map.specs.Map.{Map, IsMap, InGrid, IsCellOf, cell_at, cell_count, height_at, mask_at, place_of, position_at, shown_height}
use Rattle.hd_map.specs.Encoding.{narrow, values_of}
use Rattle.hd_map.specs.Sets.{cell_with}
use Rattle.hd_map.proofs.Points.{place_inside, position_at-inside, position_at-place}
use Rattle.hd_morph.specs.Answer.{with_cells}
use Rattle.hd_morph.specs.Filter.{Relief, relief_of}
use Rattle.hd_morph.specs.NewHeights.{cell_after, cells_after}
use Rattle.hd_morph.specs.Plain.{relief}
use Rattle.hd_morph.specs.Raised.{plus}
use Rattle.hd_morph.specs.declared.errors.MorphError.{MorphError}
use Rattle.hd_morph.specs.declared.errors.MorphError.TheVariants as morph
use Rattle.hd_morph.specs.Rectangle.{AreRaisedLists, AreRaisedWithin, IsRaiseRefusal, IsRaisedOutside}
use Rattle.hd_morph.proofs.Listed.{AreCellsWith-cells_after, cells_after-get_or, cells_after-length}
use Rattle.hd_edit.specs.declared.edit.EditError.TheVariants.{HeightRange}
use Rattle.hd_edit.specs.declared.stroke.Stroke.TheVariants as stroke
use Rattle.hd_edit.specs.Board.{IsRefusalBy}
use Rattle.hd_edit.specs.Edit.{height_refusal, in_rectangle, raised, rectangle_refusal}
use Rattle.hd_edit.specs.Filtered.{AreNewFor, refusal_of}
use Rattle.hd_edit.specs.Stroke.{IsStrokeOf, IsStroked, new_cell, new_mask, stroked}
use Rattle.hd_edit.proofs.Changes.{IsCellOf-cell_at}
use Rattle.hd_edit.proofs.CountedChanges.{height_refusal-first}
use Rattle.hd_edit.proofs.Entries.{IsCellOf-new_or_old}
use Rattle.hd_edit.proofs.Outcomes.{if-same, by_index-masks, outcome-made, outcome-refused}
use Rattle.hd_edit.proofs.Rectangles.{in_rectangle-true, IsIn-true}
use Rattle.hd_edit.proofs.Strokes.{new_cells, map_range-same, Map-same}

-- a cell with the height that shows is itself
shown_cell : (c : Cell) (masked : Bool) → cell_with (shown_height c masked) c ≡ c
shown_cell (Height h) false = refl
shown_cell (Height h) true = refl
shown_cell Bad masked = refl

-- and with that height raised, it is the raised cell
raised_cell : (n : ℤ) (c : Cell) (masked : Bool) → cell_with (plus n (shown_height c masked)) c ≡ raised n c masked
raised_cell n (Height h) false = refl
raised_cell n (Height h) true = refl
raised_cell n Bad masked = refl

module _ (m : Map) (whole : IsMap m) (from to : Pos) (n : ℤ) where
  module _ (g : Relief) (is : AreRaisedWithin m.size from to n (relief_of m) g) where
    -- the cell of a position with its raised height
    cell_is : (p : Pos) → InGrid m.size p → (b : Bool) → in_rectangle from to p ≡ b → cell_with (g p) (cell_at m p) ≡ new_cell m from to (stroke.Raise n) p
    cell_is p inside true e =
        let within = IsIn-true from to p e in
        let height = is.within p inside (record { left = within.left; right = within.right; top = within.top; bottom = within.bottom }) in
        rw e (ap (λ (v : Option ℤ). cell_with v (cell_at m p)) height ∙ raised_cell n (cell_at m p) (mask_at m p))
    cell_is p inside false e =
        let height = is.others p inside (λ w. true≢false (sym (in_rectangle-true from to p (record { left = w.left; right = w.right; top = w.top; bottom = w.bottom })) ∙ e)) in
        rw e (ap (λ (v : Option ℤ). cell_with v (cell_at m p)) height ∙ shown_cell (cell_at m p) (mask_at m p))

    pub new_cell-raised : (p : Pos) → InGrid m.size p → cell_with (g p) (cell_at m p) ≡ new_cell m from to (stroke.Raise n) p
    new_cell-raised p inside = cell_is p inside (in_rectangle from to p) refl

  -- raised out of range, the stroke is refused there
  pub height_refusal-raised : (at : Pos) → IsRaisedOutside m from to n at → height_refusal m (stroked m from to (stroke.Raise n)).cells ≡ Some (HeightRange at)
  height_refusal-raised at out =
      let first = out.first_outside in
      let some = whole.size.some_points in
      height_refusal-first m from to (stroke.Raise n) at first.in_grid
      (λ k before.
      let below : k < cell_count m.size = omega (arith, before, place_inside m.size at first.in_grid) in
      let p : Pos = position_at m.size k in
      let inside : InGrid m.size p = position_at-inside m.size k some below in
      let place : place_of m.size p ≡ k = position_at-place m.size k some in
      subst (λ (c : Cell). IsCellOf m.data_type c) (new_cell-raised out.heights out.raised p inside)
      (IsCellOf-new_or_old m.data_type (out.heights p) (cell_at m p) (first.first p inside (omega (arith, place, before))) (IsCellOf-cell_at m whole p inside)))
      (λ of.
      let new : new_cell m from to (stroke.Raise n) at ≡ Height first.height = sym (new_cell-raised out.heights out.raised at first.in_grid)
      ∙ ap (λ (v : Option ℤ). cell_with v (cell_at m at)) first.is_height in
      first.outside (subst (λ (c : Cell). IsCellOf m.data_type c) new of))

  module _ (heights : List (Option ℤ)) (is : AreRaisedWithin m.size from to n (relief_of m) (relief m.size heights)) where
    after_is : (k : ℕ) → k < cell_count m.size → cell_after m heights k ≡ new_cells m from to (stroke.Raise n) k
    after_is k below =
        let some = whole.size.some_points in
        let place : place_of m.size (position_at m.size k) ≡ k = position_at-place m.size k some in
        ap (cell_after m heights) (sym place) ∙ new_cell-raised (relief m.size heights) is (position_at m.size k) (position_at-inside m.size k some below)

    -- the map with the new heights is the stroked one
    pub stroked-raised : with_cells m (cells_after m heights) ≡ stroked m from to (stroke.Raise n)
    stroked-raised =
        Map-same m (cells_after m heights) (stroked m from to (stroke.Raise n)).cells m.masks (stroked m from to (stroke.Raise n)).masks
        (map_range-same (cell_after m heights) (new_cells m from to (stroke.Raise n)) (cell_count m.size) Bad after_is)
        (sym (by_index-masks m whole (new_mask m from to (stroke.Raise n)) (λ p. if-same (in_rectangle from to p) (mask_at m p))))

    -- where no point is present the cell stays
    pub cell_after-others : (p : Pos) → InGrid m.size p → height_at m p ≡ None → cell_after m heights (place_of m.size p) ≡ cell_at m p
    cell_after-others p inside none = new_cell-raised (relief m.size heights) is p inside ∙ stays (in_rectangle from to p) refl where
      absent : (c : Cell) (masked : Bool) → shown_height c masked ≡ None → raised n c masked ≡ c
      absent (Height h) false e = absurd (cc e)
      absent (Height h) true e = refl
      absent Bad masked e = refl

      stays : (b : Bool) → in_rectangle from to p ≡ b → new_cell m from to (stroke.Raise n) p ≡ cell_at m p
      stays true e = rw e (absent (cell_at m p) (mask_at m p) none)
      stays false e = rw e

  -- a refusal of the raised heights is one of the stroke
  pub IsRefusalBy-raise : rectangle_refusal m.size from to ≡ None → (e : MorphError) → IsRaiseRefusal m from to n e → IsRefusalBy (IsStroked m from to (stroke.Raise n)) (refusal_of e)
  IsRefusalBy-raise none morph.Memory is = tt
  IsRefusalBy-raise none (morph.HeightRange p) is = sym (outcome-refused m whole from to (stroke.Raise n) none (HeightRange p) (height_refusal-raised p is))

  module _ (olds news : List ℤ) (are : AreRaisedLists m from to n olds news) where
    -- the raised heights are new ones for the map
    pub AreNewFor-raised : AreNewFor narrow m olds news
    AreNewFor-raised = record {
      held = are.held;
      plain = are.plain;
      of_type = (AreCellsWith-cells_after m (values_of narrow news) whole are.of_type).of_type;
      others = cell_after-others (values_of narrow news) are.raised;
    }

    -- and make the stroked one of it
    pub IsStroked-raised : rectangle_refusal m.size from to ≡ None → IsStroked m from to (stroke.Raise n) (Ok (with_cells m (cells_after m (values_of narrow news))))
    IsStroked-raised none =
        let map = stroked-raised (values_of narrow news) are.raised in
        let fits : IsStrokeOf m from to (stroke.Raise n) = λ p inside.
        let k = place_of m.size p in
        let below = place_inside m.size p inside in
        subst (λ (c : Cell). IsCellOf m.data_type c) (cells_after-get_or m (values_of narrow news) k Bad below ∙ new_cell-raised (relief m.size (values_of narrow news)) are.raised p inside)
        (AreNewFor-raised.of_type k (omega (arith, below, cells_after-length m (values_of narrow news)))) in
        sym (outcome-made m whole from to (stroke.Raise n) none fits ∙ ap Ok (sym map))
