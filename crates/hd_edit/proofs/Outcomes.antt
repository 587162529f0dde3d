-- An edit as a stroke of its rectangle.
use Rattle.std.proofs.Common.{◌≡◌, ◌≢◌, ◌<◌, ℕ, Bool, true, false, List, length, get_or, set, Option, Some, None, Result, Ok, Err, refl, sym, ap, subst, ◌∙◌, inl, inr, arith}
use Rattle.std.specs.Prelude.{MatchOption, MatchResult, not, nat_le, nat_lt, if◌then◌else◌, ℤ, position}
use Rattle.std.specs.List.{position_or_len}
use Rattle.std.specs.Option.{option_map}
use Rattle.std.proofs.Math.ListN.{length-set}
use Rattle.std.proofs.lemmas.Bool.{cases_eq, false_from_ne_true, not-false}
use Rattle.std.proofs.lemmas.Bool.Decides.{nat_tests}
use Rattle.std.proofs.lemmas.List.{get_or-set_same, get_or-set_other}
use Rattle.std.proofs.lemmas.List.Sums.{position_or_len_is, fails_before_first}
use Rattle.std.proofs.lemmas.List.FromFn.{length-map-range_with_len, get_or-map-range_with_len, fill_by_all}
use Rattle.hd_map.specs.declared.types.Pos.{Pos}
use Rattle.hd_map.specs.declared.types.Size.{Size}
use Rattle.hd_map.specs.declared.types.Cell.{Cell}
use Rattle.hd_map.specs.declared.types.Cell.TheVariants.{Height, Bad}
use Rattle.hd_map.specs.declared.types.DataType.{DataType}
use Rattle.hd_map.specs.Map.{Map, IsMap, IsCellOf, InGrid, AreCellsOf, cell_at, mask_at, cell_count, place_of, position_at, in_grid, in_range}
use Rattle.hd_map.specs.Sets.{with_cell}
use Rattle.hd_map.proofs.Points.{position_at-place, position_at-inside, position_at-of, place_inside}
use Rattle.hd_map.proofs.Gather.{same_pos}
use Rattle.hd_edit.specs.declared.stroke.Stroke.{Stroke}
use Rattle.hd_edit.specs.declared.stroke.Stroke.TheVariants as stroke
use Rattle.hd_edit.specs.declared.edit.Edit.{Edit}
use Rattle.hd_edit.specs.declared.edit.Edit.TheVariants as edit
use Rattle.hd_edit.specs.declared.edit.EditError.{EditError}
use Rattle.hd_edit.specs.declared.edit.EditError.TheVariants.{Memory, Outside, HeightRange, EmptyRect, NoElement}
use Rattle.hd_morph.specs.Element.{ElementTable}
use Rattle.hd_morph.specs.declared.filter.Filter.{Filter}
use Rattle.hd_morph.specs.declared.filter.Filter.TheVariants.{Dilation, Erosion, Opening, Closing}
use Rattle.hd_morph.specs.Answer.{AreFilteredCells, with_cells}
use Rattle.hd_edit.specs.Elements.{first_named}
use Rattle.hd_edit.specs.Filter.{IsFilteredBy}
use Rattle.hd_edit.specs.Board.{IsEdited, IsRefusalBy}
use Rattle.hd_edit.specs.Edit.{height_set, height_taken, heights_raised, masks_set, in_rectangle, cell_in_range, by_index, height_refusal, rectangle_refusal, unless, masks_with}
use Rattle.hd_edit.specs.Stroke.{IsRectangle, IsStrokeOf, new_cell, new_mask, stroked, stroke_parts, outcome}
use Rattle.hd_edit.proofs.IfLess.{if-not_less}
use Rattle.hd_edit.proofs.Rectangles.{IsIn, IsIn-true, StandsAt-first}
use Rattle.hd_edit.proofs.Strokes.{Map-same, new_cell-in}
use Rattle.hd_edit.proofs.CountedChanges.{cell_in_range-is, IsCellOf-in_range, Counted-first, Counted-refused}

-- new cells are refused only where one is not of the type
pub height_refusal-none : (m : Map) (cells : List Cell) → AreCellsOf m.data_type cells → height_refusal m cells ≡ None
height_refusal-none m cells are =
    let out : Cell → Bool = λ c. not (cell_in_range m.data_type c) in
    let none : position_or_len out cells ≡ length cells = position_or_len_is out cells (length cells) Bad (omega arith)
    (λ k inside. rw (cell_in_range-is m.data_type (get_or cells k Bad) (are k inside))) (λ less. absurd (omega (arith, less))) in
    let nowhere : position out cells ≡ None = rw none (if-not_less (length cells) (length cells) (Some (length cells)) None (omega arith)) in
    ap (option_map (λ k. HeightRange (position_at m.size k))) nowhere

-- a place, or none
place_or_none : (b : Bool) (k : ℕ) (size : Size) → ◌≡◌ {A = Option EditError} (option_map (λ k. HeightRange (position_at size k)) (if b then Some k else None)) None → b ≡ false
place_or_none true k size e = cc
place_or_none false k size e = refl

-- a choice between one thing and itself
pub if-same : {X : Type 0} (b : Bool) (x : X) → (if b then x else x) ≡ x
if-same true x = refl
if-same false x = refl

-- new cells that are not refused are of the type
pub AreCellsOf-no_refusal : (m : Map) (cells : List Cell) → height_refusal m cells ≡ None → AreCellsOf m.data_type cells
AreCellsOf-no_refusal m cells none k inside =
    let out : Cell → Bool = λ c. not (cell_in_range m.data_type c) in
    let past : nat_lt (position_or_len out cells) (length cells) ≡ false = place_or_none (nat_lt (position_or_len out cells) (length cells)) (position_or_len out cells) m.size none in
    IsCellOf-in_range m.data_type (get_or cells k Bad) (not-false (cell_in_range m.data_type (get_or cells k Bad)) (fails_before_first out cells k Bad (grind (arith, nat_tests))))

-- an unmeasured cell is of each type
bad_of_type : (t : DataType) → IsCellOf t Bad
bad_of_type t h is = cc

true_or_false : true ≡ false → ⊥
true_or_false e = cc

le_itself : (n : ℕ) → nat_le n n ≡ true
le_itself n = grind (arith, nat_tests)

-- a position that passes the test is in the grid
in_grid-true : (s : Size) (p : Pos) → in_grid s p ≡ true → InGrid s p
in_grid-true s p passes = record { column = grind (arith, nat_tests); profile = grind (arith, nat_tests) }

-- what is accepted has no refusal
accepted : (r h : Option EditError) (made new : Map) → ◌≡◌ {A = Result Map EditError} (unless r (unless h (Ok made))) (Ok new) → (h ≡ None) × (made ≡ new)
accepted None None made new e = (refl, cc)
accepted None (Some error) made new e = cc
accepted (Some error) h made new e = cc

-- what is an outcome of the one is one of the other
pub IsRefusalBy-carried : (IsOne IsOther : Result Map EditError → Type 0) → ((out : Result Map EditError) → IsOne out → IsOther out) → {X : Type 0} (r : Result X EditError) (new : Map)
    → MatchResult r (λ _. IsOne (Ok new)) (IsRefusalBy IsOne) → MatchResult r (λ _. IsOther (Ok new)) (IsRefusalBy IsOther)
IsRefusalBy-carried IsOne IsOther on (Ok x) new is = on (Ok new) is
IsRefusalBy-carried IsOne IsOther on (Err Memory) new is = tt
IsRefusalBy-carried IsOne IsOther on (Err (Outside p)) new is = on (Err (Outside p)) is
IsRefusalBy-carried IsOne IsOther on (Err (HeightRange p)) new is = on (Err (HeightRange p)) is
IsRefusalBy-carried IsOne IsOther on (Err EmptyRect) new is = on (Err EmptyRect) is
IsRefusalBy-carried IsOne IsOther on (Err NoElement) new is = on (Err NoElement) is

module _ (m : Map) (whole : IsMap m) where
  -- the cell and the mask of an index
  cell_by_index : (k : ℕ) → cell_at m (position_at m.size k) ≡ get_or m.cells k Bad
  cell_by_index k = ap (λ (i : ℕ). get_or m.cells i Bad) (position_at-place m.size k whole.size.some_points)

  mask_by_index : (k : ℕ) → mask_at m (position_at m.size k) ≡ get_or m.masks k false
  mask_by_index k = ap (λ (i : ℕ). get_or m.masks i false) (position_at-place m.size k whole.size.some_points)

  -- what is by index as it was is the same list
  pub by_index-masks : (f : Pos → Bool) → ((p : Pos) → f p ≡ mask_at m p) → by_index m.size f ≡ m.masks
  by_index-masks f same = sym (fill_by_all (λ k. f (position_at m.size k)) m.masks (cell_count m.size) false whole.masks (λ k h. sym (same (position_at m.size k) ∙ mask_by_index k)))

  pub by_index-cells : (f : Pos → Cell) → ((p : Pos) → f p ≡ cell_at m p) → by_index m.size f ≡ m.cells
  by_index-cells f same = sym (fill_by_all (λ k. f (position_at m.size k)) m.cells (cell_count m.size) Bad whole.cells (λ k h. sym (same (position_at m.size k) ∙ cell_by_index k)))

  -- a rectangle of one point
  module _ (at : Pos) (inside : InGrid m.size at) where
    one_point : IsRectangle m.size at at
    one_point = record { first = inside; second = inside; columns = omega arith; profiles = omega arith }

    it_is : IsIn at at at
    it_is = record { left = omega arith; right = omega arith; top = omega arith; bottom = omega arith }

    no_other : (k : ℕ) → k ≢ place_of m.size at → in_rectangle at at (position_at m.size k) ≡ false
    no_other k other = false_from_ne_true (in_rectangle at at (position_at m.size k)) (λ passes.
        let is = IsIn-true at at (position_at m.size k) passes in
        let same : position_at m.size k ≡ at = same_pos (position_at m.size k) at (omega (arith, is.left, is.right)) (omega (arith, is.top, is.bottom)) in
        other (sym (position_at-place m.size k whole.size.some_points) ∙ ap (place_of m.size) same))

    stays_here : (c : Cell) (k : ℕ) → in_rectangle at at (position_at m.size k) ≡ false → new_cell m at at (stroke.Put c) (position_at m.size k) ≡ cell_at m (position_at m.size k)
    stays_here c k out = rw out

    pub stroked-one : (c : Cell) → stroked m at at (stroke.Put c) ≡ with_cell m at c
    stroked-one c =
        let n = place_of m.size at in
        let f : ℕ → Cell = λ k. new_cell m at at (stroke.Put c) (position_at m.size k) in
        Map-same m
        (stroked m at at (stroke.Put c)).cells (set m.cells n c)
        (stroked m at at (stroke.Put c)).masks m.masks
        (sym (fill_by_all f (set m.cells n c) (cell_count m.size) Bad (length-set m.cells n c ∙ whole.cells) (λ k h. elim (cases_eq k n) [
          | inl same ↦ rw same (get_or-set_same m.cells n c Bad (rw whole.cells (place_inside m.size at inside))
              ∙ sym (ap (new_cell m at at (stroke.Put c)) (position_at-of m.size at inside) ∙ new_cell-in m at at (stroke.Put c) at it_is))
          | inr other ↦ get_or-set_other m.cells n k c Bad other ∙ sym (stays_here c k (no_other k other) ∙ cell_by_index k)
        ])))
        (by_index-masks (new_mask m at at (stroke.Put c)) (λ p. if-same (in_rectangle at at p) (mask_at m p)))

    -- the cells with one of the type set are of the type
    one_whole : (c : Cell) → IsCellOf m.data_type c → AreCellsOf m.data_type (with_cell m at c).cells
    one_whole c of k inside' = let n = place_of m.size at in elim (cases_eq k n) [
      | inl same ↦ subst (λ (v : Cell). IsCellOf m.data_type v) (sym (ap (λ (i : ℕ). get_or (set m.cells n c) i Bad) same
          ∙ get_or-set_same m.cells n c Bad (rw whole.cells (place_inside m.size at inside)))) of
      | inr other ↦ subst (λ (v : Cell). IsCellOf m.data_type v) (sym (get_or-set_other m.cells n k c Bad other)) (whole.heights k (rw (← length-set m.cells n c) inside'))
    ]

    -- a cell of the type is set
    one_made : (c : Cell) → IsCellOf m.data_type c → ◌≡◌ {A = Result Map EditError} (Ok (with_cell m at c))
        (unless (height_refusal m (stroked m at at (stroke.Put c)).cells) (Ok (stroked m at at (stroke.Put c))))
    one_made c of = subst (λ (n : Map). ◌≡◌ {A = Result Map EditError} (Ok (with_cell m at c)) (unless (height_refusal m n.cells) (Ok n))) (sym (stroked-one c))
        (rw (height_refusal-none m (with_cell m at c).cells (one_whole c of)))

    -- a height is set, or refused
    height_outcome : (z : ℤ) (b : Bool) → in_range m.data_type z ≡ b
        → (if b then Ok (with_cell m at (Height z)) else Err (HeightRange at)) ≡ unless (height_refusal m (stroked m at at (stroke.Put (Height z))).cells)
        (Ok (stroked m at at (stroke.Put (Height z))))
    height_outcome z true e = one_made (Height z) (IsCellOf-in_range m.data_type (Height z) e)
    height_outcome z false e =
        let s = stroke.Put (Height z) in
        let refused = Counted-refused m at at s whole one_point at (StandsAt-first m.size at at one_point) (omega arith) 0 (Counted-first m at at s whole one_point)
        (λ of. true_or_false (sym (cell_in_range-is m.data_type (Height z) of) ∙ e)) in
        rw refused

  -- a point in the grid or outside it
  point_outcome : (at : Pos) (c : Cell) (made : Result Map EditError) (b : Bool) → in_grid m.size at ≡ b
      → (InGrid m.size at → made ≡ unless (height_refusal m (stroked m at at (stroke.Put c)).cells) (Ok (stroked m at at (stroke.Put c))))
      → (if in_grid m.size at then made else Err (Outside at)) ≡ outcome m at at (stroke.Put c)
  point_outcome at c made true e is = rw (e, le_itself at.x, le_itself at.y) (is (in_grid-true m.size at e))
  point_outcome at c made false e is = rw e

  -- the masks of a rectangle set
  mask_outcome : (from to : Pos) (b : Bool) → ◌≡◌ {A = Result Map EditError} (Ok (record m { masks = masks_with m from to b }))
      (unless (height_refusal m (stroked m from to (stroke.Mask b)).cells) (Ok (stroked m from to (stroke.Mask b))))
  mask_outcome from to b =
      let masks = masks_with m from to b in
      subst (λ (cells : List Cell). ◌≡◌ {A = Result Map EditError} (Ok (record m { masks = masks })) (unless (height_refusal m cells) (Ok (record m { cells = cells; masks = masks }))))
      (sym (by_index-cells (new_cell m from to (stroke.Mask b)) (λ p. if-same (in_rectangle from to p) (cell_at m p))))
      (rw (height_refusal-none m m.cells whole.heights))

  -- each edit that is no filter is a stroke of its rectangle
  pub height_set-outcome : (at : Pos) (z : ℤ) → height_set m at z ≡ outcome m at at (stroke.Put (Height z))
  height_set-outcome at z = point_outcome at (Height z) (if in_range m.data_type z then Ok (with_cell m at (Height z)) else Err (HeightRange at)) (in_grid m.size at) refl
      (λ inside. height_outcome at inside z (in_range m.data_type z) refl)

  pub height_taken-outcome : (at : Pos) → height_taken m at ≡ outcome m at at (stroke.Put Bad)
  height_taken-outcome at = point_outcome at Bad (Ok (with_cell m at Bad)) (in_grid m.size at) refl (λ inside. one_made at inside Bad (bad_of_type m.data_type))

  pub heights_raised-outcome : (from to : Pos) (delta : ℤ) → heights_raised m from to delta ≡ outcome m from to (stroke.Raise delta)
  heights_raised-outcome from to delta =
      let s = stroke.Raise delta in
      ap (λ (masks : List Bool). unless (rectangle_refusal m.size from to) (unless (height_refusal m (stroked m from to s).cells)
      (Ok (record m { cells = (stroked m from to s).cells; masks = masks }))))
      (sym (by_index-masks (new_mask m from to s) (λ p. if-same (in_rectangle from to p) (mask_at m p))))

  pub masks_set-outcome : (from to : Pos) (b : Bool) → masks_set m from to b ≡ outcome m from to (stroke.Mask b)
  masks_set-outcome from to b = ap (unless (rectangle_refusal m.size from to)) (mask_outcome from to b)

  -- the outcome of the stroke is that of the edit
  pub stroke_parts-edited : (elements : List ElementTable) (e : Edit) → MatchOption (stroke_parts e) (Unit {0}) (λ parts. (out : Result Map EditError)
      → out ≡ outcome m parts.0 parts.1 parts.2 → IsEdited elements m e out)
  stroke_parts-edited elements (edit.Set at z) = λ out is. is ∙ sym (height_set-outcome at z)
  stroke_parts-edited elements (edit.Bad at) = λ out is. is ∙ sym (height_taken-outcome at)
  stroke_parts-edited elements (edit.Add from to delta) = λ out is. is ∙ sym (heights_raised-outcome from to delta)
  stroke_parts-edited elements (edit.Mask from to) = λ out is. is ∙ sym (masks_set-outcome from to true)
  stroke_parts-edited elements (edit.Unmask from to) = λ out is. is ∙ sym (masks_set-outcome from to false)
  stroke_parts-edited elements (edit.Dilate name) = tt
  stroke_parts-edited elements (edit.Erode name) = tt
  stroke_parts-edited elements (edit.Open name) = tt
  stroke_parts-edited elements (edit.Close name) = tt

  pub IsEdited-by_stroke : (elements : List ElementTable) (e : Edit) (from to : Pos) (s : Stroke) → Some (from, to, s) ≡ stroke_parts e → (out : Result Map EditError)
      → out ≡ outcome m from to s → IsEdited elements m e out
  IsEdited-by_stroke elements e from to s parts = subst (λ (p : Option (Pos × Pos × Stroke)). MatchOption p (Unit {0}) (λ parts. (out : Result Map EditError)
      → out ≡ outcome m parts.0 parts.1 parts.2 → IsEdited elements m e out)) (sym parts) (stroke_parts-edited elements e)

  module _ (from to : Pos) (s : Stroke) (rectangle : rectangle_refusal m.size from to ≡ None) where
    outcome-by : outcome m from to s ≡ unless (height_refusal m (stroked m from to s).cells) (Ok (stroked m from to s))
    outcome-by = ap (λ (r : Option EditError). unless r (unless (height_refusal m (stroked m from to s).cells) (Ok (stroked m from to s)))) rectangle

    -- a stroke with a new height that is not of the type
    pub outcome-refused : (error : EditError) → height_refusal m (stroked m from to s).cells ≡ Some error → outcome m from to s ≡ Err error
    outcome-refused error refused = outcome-by ∙ ap (λ (r : Option EditError). unless r (Ok (stroked m from to s))) refused

    -- a stroke whose new heights are of the type
    pub outcome-made : IsStrokeOf m from to s → outcome m from to s ≡ Ok (stroked m from to s)
    outcome-made fits = outcome-by ∙ ap (λ (r : Option EditError). unless r (Ok (stroked m from to s))) (height_refusal-none m (stroked m from to s).cells (λ k inside.
        let f : ℕ → Cell = λ k. new_cell m from to s (position_at m.size k) in
        let below : k < cell_count m.size = rw (← length-map-range_with_len f 0 (cell_count m.size)) inside in
        subst (λ (c : Cell). IsCellOf m.data_type c) (sym (get_or-map-range_with_len f 0 (cell_count m.size) k k Bad below (omega arith)))
        (fits (position_at m.size k) (position_at-inside m.size k whole.size.some_points below))))

  -- a stroked map is a map if its cells are of the type
  stroked-whole : (from to : Pos) (s : Stroke) → AreCellsOf m.data_type (stroked m from to s).cells → IsMap (stroked m from to s)
  stroked-whole from to s are = record {
    size = whole.size;
    places = whole.places;
    cells = length-map-range_with_len (λ k. new_cell m from to s (position_at m.size k)) 0 (cell_count m.size);
    masks = length-map-range_with_len (λ k. new_mask m from to s (position_at m.size k)) 0 (cell_count m.size);
    heights = are;
  }

  -- the map that a stroke makes of a map is a map
  outcome-whole : (from to : Pos) (s : Stroke) (new : Map) → Ok new ≡ outcome m from to s → IsMap new
  outcome-whole from to s new is =
      let made = accepted (rectangle_refusal m.size from to) (height_refusal m (stroked m from to s).cells) (stroked m from to s) new (sym is) in
      subst (λ (n : Map). IsMap n) made.1 (stroked-whole from to s (AreCellsOf-no_refusal m (stroked m from to s).cells made.0))

  -- filtered cells make a map
  module _ (keeps : (filter : Filter) (e : ElementTable) (cells : List Cell) → AreFilteredCells filter m e cells → IsMap (with_cells m cells)) where
    filtered-whole : (filter : Filter) (found : Option ElementTable) (new : Map) → IsFilteredBy filter m found (Ok new) → IsMap new
    filtered-whole filter None new is = cc
    filtered-whole filter (Some e) new is = subst (λ (n : Map). IsMap n) (sym is.is_map) (keeps filter e is.cells is.are_filtered)

    -- the map that an edit makes of a map is a map
    pub IsEdited-map : (elements : List ElementTable) (e : Edit) (new : Map) → IsEdited elements m e (Ok new) → IsMap new
    IsEdited-map elements (edit.Set at z) new is = outcome-whole at at (stroke.Put (Height z)) new (is ∙ height_set-outcome at z)
    IsEdited-map elements (edit.Bad at) new is = outcome-whole at at (stroke.Put Bad) new (is ∙ height_taken-outcome at)
    IsEdited-map elements (edit.Add from to delta) new is = outcome-whole from to (stroke.Raise delta) new (is ∙ heights_raised-outcome from to delta)
    IsEdited-map elements (edit.Mask from to) new is = outcome-whole from to (stroke.Mask true) new (is ∙ masks_set-outcome from to true)
    IsEdited-map elements (edit.Unmask from to) new is = outcome-whole from to (stroke.Mask false) new (is ∙ masks_set-outcome from to false)
    IsEdited-map elements (edit.Dilate name) new is = filtered-whole Dilation (first_named elements name) new is
    IsEdited-map elements (edit.Erode name) new is = filtered-whole Erosion (first_named elements name) new is
    IsEdited-map elements (edit.Open name) new is = filtered-whole Opening (first_named elements name) new is
    IsEdited-map elements (edit.Close name) new is = filtered-whole Closing (first_named elements name) new is
