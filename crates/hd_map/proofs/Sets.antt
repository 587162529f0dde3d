-- A map with one cell, one mask or the heights of a profile set is a map.
use Rattle.std.proofs.Common.{ℕ, ℤ, ◌≡◌, ◌<◌, ◌+◌, ◌*◌, Bool, true, false, List, [], length, get_or, set, take, Option, Some, None, inl, inr, ap, ap₂, refl, sym, subst, ◌∙◌, arith}
use Rattle.std.specs.Prelude.{nat_eq}
use Rattle.std.proofs.Math.ListN.{length-set}
use Rattle.std.proofs.lemmas.Bool.{cases_eq, cases_lt, ne_eqb}
use Rattle.std.proofs.lemmas.Grind.{get_or-set_at}
use Rattle.std.proofs.lemmas.List.{ext_get_or, get_or-set_other, get_or-take, get_or_past, length-take}
use Rattle.std.proofs.lemmas.List.FromFn.{length-map-range_with_len, get_or-map-range_with_len}
use Rattle.hd_map.specs.declared.types.DataType.{DataType}
use Rattle.hd_map.specs.declared.types.Pos.{Pos}
use Rattle.hd_map.specs.declared.types.Cell.{Cell}
use Rattle.hd_map.specs.declared.types.Cell.TheVariants.{Height, Bad}
use Rattle.hd_map.specs.Map.{Map, InGrid, IsMap, IsCellOf, cell_at, cell_count, place_of, position_at}
use Rattle.hd_map.specs.Sets.{AreHeightsIn, cell_with, cell_with_heights, with_cell, with_heights, with_mask}
use Rattle.hd_map.proofs.Points.{place_inside, position_at-inside, position_at-of, position_at-place}

-- a map with a cell of its type is a map
pub cell_kept : (m : Map) (p : Pos) (cell : Cell) → IsMap m → IsCellOf m.data_type cell → IsMap (with_cell m p cell)
cell_kept m p cell whole of_type = let k = place_of m.size p in record {
  size = whole.size;
  places = whole.places;
  cells = length-set m.cells k cell ∙ whole.cells;
  masks = whole.masks;
  heights = λ j inside. elim (cases_eq j k) [
    | inl same ↦ rw (get_or-set_at m.cells k j cell Bad same (rw (sym same) (rw (length-set m.cells k cell) at inside))) of_type
    | inr other ↦ rw (get_or-set_other m.cells k j cell Bad other) (whole.heights j (rw (length-set m.cells k cell) at inside))
  ];
}

-- a map with a mask set is one
pub mask_kept : (m : Map) (p : Pos) (masked : Bool) → IsMap m → IsMap (with_mask m p masked)
mask_kept m p masked whole = record { size = whole.size; places = whole.places; cells = whole.cells; masks = length-set m.masks (place_of m.size p) masked ∙ whole.masks; heights = whole.heights }

-- the first numbers of a list and one more are the same but for that one
take_elsewhere : {X : Type 0} (xs : List X) (n i : ℕ) (d : X) → (i ≡ n → ⊥) → get_or (take (n + 1) xs) i d ≡ get_or (take n xs) i d
take_elsewhere xs n i d other = elim (cases_lt i n) [
  | inl below ↦ get_or-take (n + 1) xs i d (omega (arith, below)) ∙ sym (get_or-take n xs i d below)
  | inr past ↦ get_or_past (take (n + 1) xs) i d (omega (arith, past, other, length-take (n + 1) xs)) ∙ sym (get_or_past (take n xs) i d (omega (arith, past, length-take n xs)))
]

-- a height of the first ones is one of the list
taken : (heights : List (Option ℤ)) (n i : ℕ) (z : ℤ) → get_or (take n heights) i None ≡ Some z → get_or heights i None ≡ Some z
taken heights n i z is = elim (cases_lt i n) [
  | inl below ↦ sym (get_or-take n heights i None below) ∙ is
  | inr past ↦ absurd (let none : None ≡ Some z = sym (get_or_past (take n heights) i None (omega (arith, past, length-take n heights))) ∙ is in cc)
]

-- so they are of the data type too
pub heights_taken : (m : Map) (heights : List (Option ℤ)) (n : ℕ) → AreHeightsIn m.data_type heights → AreHeightsIn m.data_type (take n heights)
heights_taken m heights n all = λ x z is. all x z (taken heights n x z is)

-- a new height of a data type, or the old cell of it, is of it
of_new : (t : DataType) (new : Option ℤ) (old : Cell) → ((z : ℤ) → new ≡ Some z → IsCellOf t (Height z)) → IsCellOf t old → IsCellOf t (cell_with new old)
of_new t (Some z) old fits before = fits z refl
of_new t None old fits before = before

module _ (m : Map) (y : ℕ) where
  abbrev with_cells : List Cell → Map
  with_cells cells = record m { cells = cells }

  module _ (heights : List (Option ℤ)) where
    abbrev cell_by : ℕ → Cell
    cell_by k = cell_with_heights m y heights (position_at m.size k)

    -- there are as many cells as before
    pub heights_length : length (with_heights m y heights).cells ≡ cell_count m.size
    heights_length = length-map-range_with_len cell_by 0 (cell_count m.size)

    -- the cell at an index
    pub cell_there : (k : ℕ) → k < cell_count m.size → get_or (with_heights m y heights).cells k Bad ≡ cell_by k
    cell_there k inside = get_or-map-range_with_len cell_by 0 (cell_count m.size) k k Bad inside (omega arith)

    -- the cell at a position
    pub cell_at_heights : (p : Pos) → InGrid m.size p → cell_at (with_heights m y heights) p ≡ cell_with_heights m y heights p
    cell_at_heights p inside = cell_there (place_of m.size p) (place_inside m.size p inside) ∙ ap (cell_with_heights m y heights) (position_at-of m.size p inside)

    -- in the profile
    pub cell_in_profile : (p : Pos) → p.y ≡ y → cell_with_heights m y heights p ≡ cell_with (get_or heights p.x None) (cell_at m p)
    cell_in_profile p here = let test : nat_eq p.y y ≡ true = grind (arith, here) in rw test refl

    -- and in another one
    pub cell_off_profile : (p : Pos) → (p.y ≡ y → ⊥) → cell_with_heights m y heights p ≡ cell_at m p
    cell_off_profile p other = let test : nat_eq p.y y ≡ false = ne_eqb p.y y other in rw test refl

  -- where the heights are the same at a position, so is the cell
  same_there : (before after : List (Option ℤ)) (p : Pos) → (p.y ≡ y → get_or after p.x None ≡ get_or before p.x None) → cell_with_heights m y after p ≡ cell_with_heights m y before p
  same_there before after p same = elim (cases_eq p.y y) [
    | inl here ↦ cell_in_profile after p here ∙ ap (λ new. cell_with new (cell_at m p)) (same here) ∙ sym (cell_in_profile before p here)
    | inr other ↦ cell_off_profile after p other ∙ sym (cell_off_profile before p other)
  ]

  -- a cell whose height comes later is not set yet
  pub cell_not_yet : (heights : List (Option ℤ)) (x : ℕ) → InGrid m.size (record { x = x; y = y })
      → cell_at (with_heights m y (take x heights)) (record { x = x; y = y }) ≡ cell_at m (record { x = x; y = y })
  cell_not_yet heights x inside =
      let at : Pos = record { x = x; y = y } in
      cell_at_heights (take x heights) at inside ∙ cell_in_profile (take x heights) at refl
      ∙ ap (λ new. cell_with new (cell_at m at)) (get_or_past (take x heights) x None (omega (arith, length-take x heights)))

  -- where each cell of the profile stays, so does the map
  pub heights_same : IsMap m → (heights : List (Option ℤ))
      → ((x : ℕ) → x < m.size.points → cell_with (get_or heights x None) (cell_at m (record { x = x; y = y })) ≡ cell_at m (record { x = x; y = y })) → with_heights m y heights ≡ m
  heights_same whole heights same = ap with_cells (ext_get_or Bad (with_heights m y heights).cells m.cells (heights_length heights ∙ sym whole.cells)
      (λ k here. (
      let below : k < cell_count m.size = rw (heights_length heights) at here in
      let p : Pos = position_at m.size k in
      let inside = position_at-inside m.size k whole.size.some_points below in
      let stays : cell_with_heights m y heights p ≡ cell_at m p = elim (cases_eq p.y y) [
        | inl row ↦ cell_in_profile heights p row
            ∙ subst (λ (j : ℕ). cell_with (get_or heights p.x None) (cell_at m (record { x = p.x; y = j })) ≡ cell_at m (record { x = p.x; y = j })) (sym row) (same p.x inside.column)
        | inr other ↦ cell_off_profile heights p other
      ] in
      cell_there heights k below ∙ stays ∙ ap (λ i. get_or m.cells i Bad) (position_at-place m.size k whole.size.some_points))))

  -- so without a height
  pub heights_none : IsMap m → with_heights m y [] ≡ m
  heights_none whole = heights_same whole [] (λ x inside. refl)

  -- with one height more it has one more cell set
  pub heights_more : IsMap m → (heights : List (Option ℤ)) (x : ℕ) → InGrid m.size (record { x = x; y = y })
      → with_heights m y (take (x + 1) heights) ≡ with_cell (with_heights m y (take x heights)) (record { x = x; y = y }) (cell_with (get_or heights x None) (cell_at m (record { x = x; y = y })))
  heights_more whole heights x inside =
      let at : Pos = record { x = x; y = y } in
      let n : ℕ = place_of m.size at in
      let before = with_heights m y (take x heights) in
      let after = with_heights m y (take (x + 1) heights) in
      let cell : Cell = cell_with (get_or heights x None) (cell_at m at) in
      let long = heights_length (take (x + 1) heights) in
      let was = heights_length (take x heights) in
      ap with_cells (ext_get_or Bad after.cells (set before.cells n cell) (long ∙ sym (length-set before.cells n cell ∙ was))
      (λ k here. (
      let below : k < cell_count m.size = rw long at here in
      elim (cases_eq k n) [
        | inl same ↦ ap (λ i. get_or after.cells i Bad) same ∙ cell_at_heights (take (x + 1) heights) at inside ∙ cell_in_profile (take (x + 1) heights) at refl
            ∙ ap (λ new. cell_with new (cell_at m at)) (get_or-take (x + 1) heights x None (omega arith)) ∙ sym (get_or-set_at before.cells n k cell Bad same (rw was (place_inside m.size at inside)))
        | inr other ↦
            let p : Pos = position_at m.size k in
            let apart = λ (row : p.y ≡ y) (column : p.x ≡ x). other (sym (position_at-place m.size k whole.size.some_points) ∙ ap₂ (λ j i. j * m.size.points + i) row column) in
            cell_there (take (x + 1) heights) k below ∙ same_there (take x heights) (take (x + 1) heights) p (λ row. take_elsewhere heights x p.x None (apart row))
            ∙ sym (cell_there (take x heights) k below) ∙ sym (get_or-set_other before.cells n k cell Bad other)
      ])))

  -- a cell of the data type is one with heights of it too
  of_cell : (heights : List (Option ℤ)) → AreHeightsIn m.data_type heights → (p : Pos) → IsCellOf m.data_type (cell_at m p) → IsCellOf m.data_type (cell_with_heights m y heights p)
  of_cell heights of_type p before = elim (cases_eq p.y y) [
    | inl here ↦ subst (IsCellOf m.data_type) (sym (cell_in_profile heights p here)) (of_new m.data_type (get_or heights p.x None) (cell_at m p) (of_type p.x) before)
    | inr other ↦ subst (IsCellOf m.data_type) (sym (cell_off_profile heights p other)) before
  ]

  -- with heights of its type it is a map
  pub heights_kept : IsMap m → (heights : List (Option ℤ)) → AreHeightsIn m.data_type heights → IsMap (with_heights m y heights)
  heights_kept whole heights of_type = record {
    size = whole.size;
    places = whole.places;
    cells = heights_length heights;
    masks = whole.masks;
    heights = λ k inside. (
        let below : k < cell_count m.size = rw (heights_length heights) at inside in
        let p : Pos = position_at m.size k in
        let there : place_of m.size p < length m.cells = rw (position_at-place m.size k whole.size.some_points, whole.cells) below in
        subst (IsCellOf m.data_type) (sym (cell_there heights k below)) (of_cell heights of_type p (whole.heights (place_of m.size p) there)));
  }
