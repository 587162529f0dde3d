-- The map before an entry, and the heights that stood before an exchange.
use Rattle.std.proofs.Common.{◌≡◌, ◌<◌, ◌+◌, ◌||◌, ℕ, zero, suc, ℤ, Bool, false, List, length, get_or, Option, Some, None, inl, inr, refl, sym, ap, subst, ◌∙◌, arith}
use Rattle.std.specs.Prelude.{if◌then◌else◌}
use Rattle.std.proofs.lemmas.Bool.{cases_lt, false_from_ne_true}
use Rattle.std.proofs.lemmas.Bool.Decides.{nat_tests}
use Rattle.std.proofs.lemmas.Int.{ints}
use Rattle.std.proofs.lemmas.List.{get_or_past}
use Rattle.std.proofs.lemmas.List.FromFn.{fill_by_all}
use Rattle.hd_map.specs.declared.types.Adjacency.{Adjacency}
use Rattle.hd_map.specs.declared.types.Pos.{Pos}
use Rattle.hd_map.specs.declared.types.Size.{Size}
use Rattle.hd_map.specs.declared.types.Cell.{Cell}
use Rattle.hd_map.specs.declared.types.Cell.TheVariants.{Height, Bad}
use Rattle.hd_map.specs.declared.types.DataType.{DataType}
use Rattle.hd_map.specs.Encoding.{Encoding, narrow, wide, values_of}
use Rattle.hd_map.specs.Lanes.{exceeds}
use Rattle.hd_map.specs.Map.{Map, IsMap, InGrid, IsCellOf, AreCellsOf, cell_at, cell_count, height_at, mask_at, place_of, position_at}
use Rattle.hd_map.specs.Sets.{AreHeightsIn, cell_with, under}
use Rattle.hd_map.proofs.Points.{place_inside, position_at-inside, position_at-place}
use Rattle.hd_morph.specs.Answer.{AreFilteredCells, with_cells}
use Rattle.hd_morph.specs.Element.{ElementTable}
use Rattle.hd_morph.specs.Filter.{IsFiltered, Relief, relief_of}
use Rattle.hd_morph.specs.declared.filter.Filter.{Filter}
use Rattle.hd_morph.specs.declared.filter.Filter.TheVariants.{Dilation, Erosion, Opening, Closing}
use Rattle.hd_morph.specs.NewHeights.{cell_after, cells_after}
use Rattle.hd_morph.specs.Lists.{AreOldAndNew}
use Rattle.hd_morph.specs.declared.new_heights.OldAndNew.{OldAndNew}
use Rattle.hd_morph.specs.declared.new_heights.OldAndNew.TheVariants.{Narrow, Wide}
use Rattle.hd_morph.proofs.Encodings.{values_of-length}
use Rattle.hd_morph.proofs.Listed.{cells_after-get_or, cells_after-length}
use Rattle.hd_morph.proofs.PlainNumbers.{Option-some_or_none}
use Rattle.hd_edit.specs.declared.entry.Entry.{Entry}
use Rattle.hd_edit.specs.declared.entry.Entry.TheVariants as entry
use Rattle.hd_edit.specs.Entry.{AreHeightsFor, before_entry}
use Rattle.hd_edit.specs.Exchange.{AreExchanged, different, differs}
use Rattle.hd_edit.specs.Filter.{IsFilteredMap}
use Rattle.hd_edit.specs.Filtered.{IsNewFor, LeavesOthers, map_after}
use Rattle.hd_edit.specs.Stroke.{count_below}
use Rattle.hd_edit.proofs.Changes.{IsCellOf-cell_at, before_changes-kind, before_changes-under}
use Rattle.hd_edit.proofs.ProfileChanges.{shown_height-told}

-- the map before an entry has the size and the type of the map after it
pub before_entry-kind : (P : Size → DataType → Type 0) (e : Entry) (m : Map) → P m.size m.data_type → P (before_entry e m).size (before_entry e m).data_type
before_entry-kind P (entry.Changes changes) m p = before_changes-kind P changes m p
before_entry-kind P (entry.Heights numbers) m p = p

-- an entry is undone alike under each setting
pub before_entry-under : (adjacency : Adjacency) (e : Entry) (m : Map) → before_entry e (under adjacency m) ≡ under adjacency (before_entry e m)
before_entry-under adjacency (entry.Changes changes) m = before_changes-under adjacency changes m
before_entry-under adjacency (entry.Heights numbers) m = refl

-- where no point is present none is once a map is filtered
filtered_absent : (filter : Filter) (s : Size) (e : ElementTable) (f g : Relief) → IsFiltered filter s e f g → (p : Pos) → InGrid s p → f p ≡ None → g p ≡ None
filtered_absent Dilation s e f g is = is.absent
filtered_absent Erosion s e f g is = is.absent
filtered_absent Opening s e f g is = λ p inside none. is.second.absent p inside (is.first.absent p inside none)
filtered_absent Closing s e f g is = λ p inside none. is.second.absent p inside (is.first.absent p inside none)

-- so its cell stays
others_left : (filter : Filter) (m : Map) (e : ElementTable) (heights : List (Option ℤ)) → AreFilteredCells filter m e (cells_after m heights) → LeavesOthers m heights
others_left filter m e heights are = λ p inside none.
    sym (cells_after-get_or m heights (place_of m.size p) Bad (place_inside m.size p inside))
    ∙ are.are_cells.absent p inside (filtered_absent filter m.size e (relief_of m) are.heights are.filtered p inside none)

-- new heights of a filter, in lists of either type
pub IsNewFor-lists : (filter : Filter) (m : Map) (e : ElementTable) (lists : OldAndNew) → AreOldAndNew filter m e lists → IsNewFor m lists
IsNewFor-lists filter m e (Narrow lists) are = record {
  held = are.held;
  plain = are.plain;
  of_type = are.made.filtered.are_cells.of_type;
  others = others_left filter m e (values_of narrow lists.after.items) are.made.filtered;
}
IsNewFor-lists filter m e (Wide lists) are = record {
  held = are.held;
  plain = are.plain;
  of_type = are.made.filtered.are_cells.of_type;
  others = others_left filter m e (values_of wide lists.after.items) are.made.filtered;
}

-- the map with them is the filtered one
pub IsFilteredMap-lists : (filter : Filter) (m : Map) (e : ElementTable) (lists : OldAndNew) → AreOldAndNew filter m e lists → IsFilteredMap filter m e (map_after m lists)
IsFilteredMap-lists filter m e (Narrow lists) are = record { cells = cells_after m (values_of narrow lists.after.items); are_filtered = are.made.filtered; is_map = refl }
IsFilteredMap-lists filter m e (Wide lists) are = record { cells = cells_after m (values_of wide lists.after.items); are_filtered = are.made.filtered; is_map = refl }

-- two heights of which neither exceeds the other do not differ
pub exceeds_differs : (a b : Option ℤ) → (exceeds a b || exceeds b a) ≡ differs a b
exceeds_differs (Some x) (Some y) = grind (arith, ints, nat_tests)
exceeds_differs (Some x) None = refl
exceeds_differs None (Some y) = refl
exceeds_differs None None = refl

-- heights that do not differ are one
one_height : (a b : Option ℤ) → differs a b ≡ false → a ≡ b
one_height (Some x) (Some y) same = ap Some (grind (arith, ints, nat_tests))
one_height (Some x) None same = cc
one_height None (Some y) same = cc
one_height None None same = refl

-- where none of the first numbers passes a test, each of them fails it
none_passes : (p : ℕ → Bool) (n : ℕ) → count_below p n ≡ 0 → (k : ℕ) → k < n → p k ≡ false
none_passes p zero none k below = absurd (omega arith)
none_passes p (suc n) none k below = elim (cases_lt k n) [
  | inl before ↦ none_passes p n (omega (arith, none)) k before
  | inr not ↦
      let here : k ≡ n = omega (arith, below, not) in
      rw here (false_from_ne_true (p n) (λ passes. let one : count_below p (suc n) ≡ count_below p n
      + 1 = ap (λ (b : Bool). count_below p n + (if b then 1 else 0)) passes in absurd (omega (arith, one, none))))
]

-- a new height of the type, or the old cell of it, is of it
pub IsCellOf-new_or_old : (t : DataType) (new : Option ℤ) (old : Cell) → ((z : ℤ) → new ≡ Some z → IsCellOf t (Height z)) → IsCellOf t old → IsCellOf t (cell_with new old)
IsCellOf-new_or_old t (Some z) old fits before = fits z refl
IsCellOf-new_or_old t None old fits before = before

-- with heights of the type each cell of a map is of it
pub AreCellsOf-cells_after : (m : Map) (heights : List (Option ℤ)) → IsMap m → AreHeightsIn m.data_type heights → AreCellsOf m.data_type (cells_after m heights)
AreCellsOf-cells_after m heights whole fit = λ k inside.
    let below : k < cell_count m.size = omega (arith, inside, cells_after-length m heights) in
    subst (λ (c : Cell). IsCellOf m.data_type c) (sym (cells_after-get_or m heights k Bad below))
    (IsCellOf-new_or_old m.data_type (get_or heights k None) (get_or m.cells k Bad) (fit k) (whole.heights k (omega (arith, below, whole.cells))))

module _ (m : Map) (whole : IsMap m) (olds : List (Option ℤ)) (held : (p : Pos) → InGrid m.size p → get_or olds (place_of m.size p) None ≡ height_at m p) where
  -- what the list tells at an index
  held_at : (k : ℕ) → k < cell_count m.size → get_or olds k None ≡ height_at m (position_at m.size k)
  held_at k below =
      let some = whole.size.some_points in
      ap (λ (i : ℕ). get_or olds i None) (sym (position_at-place m.size k some)) ∙ held (position_at m.size k) (position_at-inside m.size k some below)

  -- each height is of the type
  pub AreHeightsFor-held : length olds ≡ cell_count m.size → AreHeightsFor m.size m.data_type olds
  AreHeightsFor-held long = record {
    whole = long;
    of_type = λ k z is. elim (cases_lt k (cell_count m.size)) [
      | inl below ↦
          let p : Pos = position_at m.size k in
          let cell : cell_at m p ≡ Height z = shown_height-told (cell_at m p) (mask_at m p) z (sym (held_at k below) ∙ is) in
          subst (λ (c : Cell). IsCellOf m.data_type c) cell (IsCellOf-cell_at m whole p (position_at-inside m.size k whole.size.some_points below))
      | inr past ↦ absurd (let none : None ≡ Some z = sym (get_or_past olds k None (omega (arith, past, long))) ∙ is in cc)
    ];
  }

  module _ (news : List (Option ℤ)) (none : different olds news (cell_count m.size) ≡ 0) where
    -- where no height becomes another one, the cell at an index stays
    stays_at : (k : ℕ) → k < cell_count m.size → cell_after m news k ≡ get_or m.cells k Bad
    stays_at k below =
        let p : Pos = position_at m.size k in
        let place : place_of m.size p ≡ k = position_at-place m.size k whole.size.some_points in
        let here : cell_at m p ≡ get_or m.cells k Bad = ap (λ (i : ℕ). get_or m.cells i Bad) place in
        let same : get_or olds k None ≡ get_or news k None = one_height (get_or olds k None) (get_or news k None)
        (none_passes (λ i. differs (get_or olds i None) (get_or news i None)) (cell_count m.size) none k below) in
        let told = sym same ∙ held_at k below in
        elim (Option-some_or_none (height_at m p)) [
          | inl some ↦ ap (λ (v : Option ℤ). cell_with v (get_or m.cells k Bad)) (told ∙ some.1) ∙ sym (shown_height-told (cell_at m p) (mask_at m p) some.0 some.1) ∙ here
          | inr gone ↦ ap (λ (v : Option ℤ). cell_with v (get_or m.cells k Bad)) (told ∙ gone)
        ]

    -- and so does the map
    pub with_cells-stay : with_cells m (cells_after m news) ≡ m
    with_cells-stay = ap (λ (cs : List Cell). record m { cells = cs }) (sym (fill_by_all (cell_after m news) m.cells (cell_count m.size) Bad whole.cells (λ k h. sym (stays_at k h))))

  module _ (heights : List (Option ℤ)) (others : LeavesOthers m heights) where
    abbrev after : Map
    after = with_cells m (cells_after m heights)

    -- put back, the cell at an index is the one before
    back_at : (k : ℕ) → k < cell_count m.size → cell_after after olds k ≡ get_or m.cells k Bad
    back_at k below =
        let p : Pos = position_at m.size k in
        let place : place_of m.size p ≡ k = position_at-place m.size k whole.size.some_points in
        let inside : InGrid m.size p = position_at-inside m.size k whole.size.some_points below in
        let told = held_at k below in
        let here : cell_at m p ≡ get_or m.cells k Bad = ap (λ (i : ℕ). get_or m.cells i Bad) place in
        elim (Option-some_or_none (height_at m p)) [
          | inl some ↦ ap (λ (v : Option ℤ). cell_with v (get_or after.cells k Bad)) (told ∙ some.1) ∙ sym (shown_height-told (cell_at m p) (mask_at m p) some.0 some.1) ∙ here
          | inr none ↦ ap (λ (v : Option ℤ). cell_with v (get_or after.cells k Bad)) (told ∙ none) ∙ cells_after-get_or m heights k Bad below
              ∙ ap (cell_after m heights) (sym place) ∙ others p inside none ∙ here
        ]

    -- and so the map
    pub with_cells-back : with_cells after (cells_after after olds) ≡ m
    with_cells-back = ap (λ (cs : List Cell). record m { cells = cs }) (sym (fill_by_all (cell_after after olds) m.cells (cell_count m.size) Bad whole.cells (λ k h. sym (back_at k h))))

module _ {L : Type 0} (code : Encoding L) (m new : Map) (numbers old : List L) (whole : IsMap m) (are : AreExchanged code m new numbers old) where
  -- an exchange is undone by the heights that stood there
  pub LeavesOthers-back : LeavesOthers m (values_of code numbers) → with_cells new (cells_after new (values_of code old)) ≡ m
  LeavesOthers-back others = ap (λ (n : Map). with_cells n (cells_after n (values_of code old))) are.sets ∙ with_cells-back m whole (values_of code old) are.held.each (values_of code numbers) others

  pub AreHeightsFor-exchange : AreHeightsFor m.size m.data_type (values_of code old)
  AreHeightsFor-exchange = AreHeightsFor-held m whole (values_of code old) are.held.each (values_of-length code old ∙ are.held.plain.whole)
