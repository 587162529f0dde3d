-- What is known of the points before an index.
use Rattle.std.proofs.Common.{◌≡◌, ◌<◌, ◌≤◌, ◌+◌, ℕ, Bool, true, false, List, length, map, Some, None, refl, sym, ap, subst, ◌∙◌, inl, inr, arith}
use Rattle.std.specs.Prelude.{not, position, if◌then◌else◌}
use Rattle.std.specs.List.{range_with_len, position_or_len}
use Rattle.std.specs.Option.{option_map}
use Rattle.std.proofs.lemmas.Bool.{cases_lt, false_from_ne_true}
use Rattle.std.proofs.lemmas.Bool.Decides.{nat_tests}
use Rattle.std.proofs.lemmas.Int.{ints}
use Rattle.std.proofs.lemmas.List.Sums.{position_or_len_is}
use Rattle.std.proofs.lemmas.List.FromFn.{length-map-range_with_len, get_or-map-range_with_len}
use Rattle.hd_map.specs.declared.types.Pos.{Pos}
use Rattle.hd_map.specs.declared.types.Cell.{Cell}
use Rattle.hd_map.specs.declared.types.Cell.TheVariants.{Height, Bad}
use Rattle.hd_map.specs.declared.types.DataType.{DataType}
use Rattle.hd_map.specs.Map.{Map, InGrid, IsMap, IsCellOf, cell_at, mask_at, cell_count, place_of, position_at}
use Rattle.hd_map.proofs.Points.{position_at-inside, position_at-of, place_inside}
use Rattle.hd_edit.specs.declared.stroke.Stroke.{Stroke}
use Rattle.hd_edit.specs.declared.edit.EditError.TheVariants.{HeightRange}
use Rattle.hd_edit.specs.Edit.{in_rectangle, cell_in_range, height_refusal}
use Rattle.hd_edit.specs.Stroke.{IsRectangle, IsStrokeOf, cell_after, new_cell, stroked, changes, changes_to, changes_at, count_below, next_in}
use Rattle.hd_edit.proofs.IfLess.{if-less}
use Rattle.hd_edit.proofs.Rectangles.{IsIn, StandsAt, in_rectangle-true, StandsAt-in, StandsAt-inside, next_in-later, in_rectangle-none_between, in_rectangle-none_before, in_rectangle-none_past}
use Rattle.hd_edit.proofs.Strokes.{new_cells, new_cell-in, count_below-more, count_below-skip}
use Rattle.hd_edit.proofs.Changes.{IsCellOf-cell_at}

-- a cell of the type passes the test, and no other does
pub cell_in_range-is : (t : DataType) (c : Cell) → IsCellOf t c → cell_in_range t c ≡ true
cell_in_range-is t (Height z) is = let within = is z refl in grind (arith, ints, nat_tests, within.0, within.1)
cell_in_range-is t Bad is = refl

pub IsCellOf-in_range : (t : DataType) (c : Cell) → cell_in_range t c ≡ true → IsCellOf t c
IsCellOf-in_range t (Height z) passes h is = grind (arith, ints, nat_tests)
IsCellOf-in_range t Bad passes h is = cc

cell_out_of_range : (t : DataType) (c : Cell) → (IsCellOf t c → ⊥) → cell_in_range t c ≡ false
cell_out_of_range t c never = false_from_ne_true (cell_in_range t c) (λ passes. never (IsCellOf-in_range t c passes))

-- the first place that passes
position_is : {X : Type 0} (p : X → Bool) (xs : List X) (n : ℕ) → position_or_len p xs ≡ n → n < length xs → position p xs ≡ Some n
position_is p xs n first below = rw first (if-less n (length xs) (Some n) None below)

module _ (m : Map) (from to : Pos) (s : Stroke) where
  -- how many points before an index are changed, and that their new heights are of the type
  pub record Counted (n count : ℕ) : Type 0 where
    pub count_is : count ≡ count_below (changes_at m from to s) n
    pub fit : (k : ℕ) → k < n → k < cell_count m.size → IsCellOf m.data_type (new_cells m from to s k)

  -- a point of the rectangle is changed where the stroke changes it
  changes_in : (at : Pos) → IsIn from to at → changes_to m from to s at ≡ changes s (cell_at m at) (mask_at m at)
  changes_in at is = rw (in_rectangle-true from to at is)

  -- no point of the rectangle is changed where there is none
  pub changes_at-outside : (k : ℕ) → in_rectangle from to (position_at m.size k) ≡ false → changes_at m from to s k ≡ false
  changes_at-outside k out = rw out

  -- a point outside the rectangle stays of the type
  fits_outside : IsMap m → (k : ℕ) → k < cell_count m.size → in_rectangle from to (position_at m.size k) ≡ false → IsCellOf m.data_type (new_cells m from to s k)
  fits_outside whole k below out = rw out (IsCellOf-cell_at m whole (position_at m.size k) (position_at-inside m.size k whole.size.some_points below))

  -- a stroke is refused at the first point whose new height is not of the type
  pub height_refusal-first : (at : Pos) → InGrid m.size at → ((k : ℕ) → k < place_of m.size at → IsCellOf m.data_type (new_cells m from to s k)) → (IsCellOf m.data_type (new_cell m from to s at) → ⊥)
      → height_refusal m (stroked m from to s).cells ≡ Some (HeightRange at)
  height_refusal-first at inside fit never =
      let n = place_of m.size at in
      let cells = map (new_cells m from to s) (range_with_len 0 (cell_count m.size)) in
      let below = place_inside m.size at inside in
      let len = length-map-range_with_len (new_cells m from to s) 0 (cell_count m.size) in
      let here : new_cells m from to s n ≡ new_cell m from to s at = ap (new_cell m from to s) (position_at-of m.size at inside) in
      let out : Cell → Bool = λ c. not (cell_in_range m.data_type c) in
      let first : position_or_len out cells ≡ n = position_or_len_is out cells n Bad (omega (arith, len, below))
      (λ k before. rw (get_or-map-range_with_len (new_cells m from to s) 0 (cell_count m.size) k k Bad (omega (arith, before, below)) (omega arith))
      (rw (cell_in_range-is m.data_type (new_cells m from to s k) (fit k before))))
      (λ _. rw (get_or-map-range_with_len (new_cells m from to s) 0 (cell_count m.size) n n Bad below (omega arith), here) (rw (cell_out_of_range m.data_type (new_cell m from to s at) never))) in
      ap (option_map (λ k. HeightRange (position_at m.size k))) (position_is out cells n first (omega (arith, len, below)))
      ∙ ap (λ (p : Pos). Some (HeightRange p)) (position_at-of m.size at inside)

  -- over indexes without a point of the rectangle
  pub Counted-skip : IsMap m → (n n' count : ℕ) → n ≤ n' → ((k : ℕ) → n ≤ k → k < n' → in_rectangle from to (position_at m.size k) ≡ false) → Counted n count → Counted n' count
  Counted-skip whole n n' count on none so = record {
    count_is = so.count_is ∙ count_below-skip (changes_at m from to s) n n' on (λ k after before. changes_at-outside k (none k after before));
    fit = λ k before below. elim (cases_lt k n) [
      | inl less ↦ so.fit k less below
      | inr more ↦ fits_outside whole k below (none k more before)
    ];
  }

  module _ (whole : IsMap m) (is : IsRectangle m.size from to) where
    -- before the first corner
    pub Counted-first : Counted (place_of m.size from) 0
    Counted-first = Counted-skip whole 0 (place_of m.size from) 0 (omega arith) (λ k after before. in_rectangle-none_before m.size from to is k before)
        (record { count_is = refl; fit = λ k before below. absurd (omega (arith, before)) })

    module _ (at : Pos) (stands : StandsAt from to at) (here : at.y ≤ to.y) where
      -- what the stroke makes of the point where the walk stands
      new_here : new_cells m from to s (place_of m.size at) ≡ cell_after s (cell_at m at) (mask_at m at)
      new_here = ap (new_cell m from to s) (position_at-of m.size at (StandsAt-inside m.size from to at is stands here)) ∙ new_cell-in m from to s at (StandsAt-in m.size from to at is stands here)

      pub changes_at-here : changes_at m from to s (place_of m.size at) ≡ changes s (cell_at m at) (mask_at m at)
      changes_at-here = ap (changes_to m from to s) (position_at-of m.size at (StandsAt-inside m.size from to at is stands here)) ∙ changes_in at (StandsAt-in m.size from to at is stands here)

      -- one point further
      pub Counted-next : (count : ℕ) (b : Bool) → Counted (place_of m.size at) count → b ≡ changes s (cell_at m at) (mask_at m at) → IsCellOf m.data_type (cell_after s (cell_at m at) (mask_at m at))
          → Counted (place_of m.size (next_in from to at)) (count + (if b then 1 else 0))
      Counted-next count b so same fits =
          let n = place_of m.size at in
          Counted-skip whole (n + 1) (place_of m.size (next_in from to at)) (count + (if b then 1 else 0)) (next_in-later m.size from to at is stands here)
          (in_rectangle-none_between m.size from to at is stands here) (record {
            count_is = ap (λ (v : Bool). count + (if v then 1 else 0)) (same ∙ sym changes_at-here) ∙ ap (λ (v : ℕ). v + (if changes_at m from to s n then 1 else 0)) so.count_is
                ∙ sym (count_below-more (changes_at m from to s) n);
            fit = λ k before below. elim (cases_lt k n) [
              | inl less ↦ so.fit k less below
              | inr more ↦ let e : k ≡ n = omega (arith, more, before) in rw (e, new_here) fits
            ];
          })

      -- the first point whose new height is not of the type
      pub Counted-refused : (count : ℕ) → Counted (place_of m.size at) count → (IsCellOf m.data_type (cell_after s (cell_at m at) (mask_at m at)) → ⊥)
          → height_refusal m (stroked m from to s).cells ≡ Some (HeightRange at)
      Counted-refused count so never =
          let inside = StandsAt-inside m.size from to at is stands here in
          let below = place_inside m.size at inside in
          height_refusal-first at inside (λ k before. so.fit k before (omega (arith, before, below)))
          (λ of. never (subst (λ (c : Cell). IsCellOf m.data_type c) (new_cell-in m from to s at (StandsAt-in m.size from to at is stands here)) of))

    -- past the last profile all points are counted
    pub count_below-all_changes : (at : Pos) → to.y < at.y → count_below (changes_at m from to s) (place_of m.size at) ≡ count_below (changes_at m from to s) (cell_count m.size)
    count_below-all_changes at past = let n = place_of m.size at in elim (cases_lt n (cell_count m.size)) [
      | inl less ↦ count_below-skip (changes_at m from to s) n (cell_count m.size) (omega (arith, less))
          (λ k after before. changes_at-outside k (in_rectangle-none_past m.size from to is at past k after))
      | inr more ↦ sym (count_below-skip (changes_at m from to s) (cell_count m.size) n more
          (λ k after before. changes_at-outside k (in_rectangle-none_past m.size from to is (record { x = 0; y = m.size.profiles }) is.second.profile k (omega (arith, after)))))
    ]

    pub Counted-last : (at : Pos) (count : ℕ) → to.y < at.y → Counted (place_of m.size at) count → (count ≡ count_below (changes_at m from to s) (cell_count m.size)) × IsStrokeOf m from to s
    Counted-last at count past so = (
      so.count_is ∙ count_below-all_changes at past,
      λ p inside.
          let k = place_of m.size p in
          let inside' = place_inside m.size p inside in
          subst (λ (q : Pos). IsCellOf m.data_type (new_cell m from to s q)) (position_at-of m.size p inside) (elim (cases_lt k (place_of m.size at)) [
            | inl less ↦ so.fit k less inside'
            | inr more ↦ fits_outside whole k inside' (in_rectangle-none_past m.size from to is at past k more)
          ]),
    )
