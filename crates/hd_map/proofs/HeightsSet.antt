-- The heights of a profile of a kept map, set one column after the other.
use Rattle.std.proofs.Common.{ℕ, ℤ, ◌≡◌, ◌<◌, ◌≤◌, ◌+◌, ◌||◌, List, length, get_or, set, take, Option, Some, None, ap, ap₂, refl, sym, subst, ◌∙◌, arith}
use Rattle.std.specs.Prelude.{MatchOption, is_some}
use Rattle.std.specs.Option.{unwrap_or}
use Rattle.std.proofs.Math.ListN.{length-set}
use Rattle.std.proofs.lemmas.List.{get_or_default, length-map, take_all}
use Rattle.hd_map.specs.declared.types.Adjacency.{Adjacency}
use Rattle.hd_map.specs.declared.types.DataType.{DataType}
use Rattle.hd_map.specs.declared.types.Pos.{Pos}
use Rattle.hd_map.specs.declared.types.Size.{Size}
use Rattle.hd_map.specs.declared.types.Cell.{Cell}
use Rattle.hd_map.specs.declared.types.Cell.TheVariants.{Height}
use Rattle.hd_map.specs.declared.mark.Mark.{Mark}
use Rattle.hd_map.specs.declared.mark.Mark.TheVariants.{Shown}
use Rattle.hd_map.specs.Map.{Map, InGrid, IsMap, cell_at, cell_count, place_of}
use Rattle.hd_map.specs.Packing.{cell_from, kept_map, masks, measures}
use Rattle.hd_map.specs.Sets.{AreHeightsIn, cell_with, with_cell, with_heights}
use Rattle.hd_map.proofs.PackedPoints.{cell_read, cell_set}
use Rattle.hd_map.proofs.Points.{place_inside}
use Rattle.hd_map.proofs.Sets.{cell_not_yet, heights_kept, heights_more, heights_none, heights_taken}

-- a number and a mark of a new height, or those before where there is none, make the cell with it
pub new_cell : {H : Type 0} (height : H → ℤ) (new : Option ℤ) (before now : H) (was mark : Mark) → MatchOption new (now ≡ before) (λ z. height now ≡ z) → measures mark ≡ (is_some new || measures was)
    → cell_from height now mark ≡ cell_with new (cell_from height before was)
new_cell height (Some z) before now was mark is measured = rw measured (ap Height is)
new_cell height None before now was mark is measured = rw (measured, is) refl

-- a height that is kept as it is, or the one before where there is none
pub or_before : (new : Option ℤ) (before now : ℤ) → now ≡ unwrap_or new before → MatchOption new (now ≡ before) (λ z. now ≡ z)
or_before (Some z) before now is = is
or_before None before now is = is

module _ {H : Type 0} (height : H → ℤ) (s : Size) (t : DataType) (ns : List H) (ms : List Mark) (adjacency : Adjacency) (y : ℕ) (heights : List (Option ℤ)) where
  abbrev before : Map
  before = kept_map height s t ns ms adjacency

  abbrev after : List H → List Mark → Map
  after numbers marks = kept_map height s t numbers marks adjacency

  -- up to a column the heights are set
  pub record AreSetTo (x : ℕ) (numbers : List H) (marks : List Mark) : Type 0 where
    pub paired : length numbers ≡ length marks
    pub is : after numbers marks ≡ with_heights before y (take x heights)

  -- none is set yet
  pub none_set : IsMap before → (numbers : List H) (marks : List Mark) → numbers ≡ ns → marks ≡ ms → length ns ≡ length ms → AreSetTo 0 numbers marks
  none_set whole numbers marks same alike paired = record {
    paired = ap length same ∙ paired ∙ sym (ap length alike);
    is = ap₂ after same alike ∙ sym (heights_none before y whole);
  }

  -- all columns
  pub all_set : (x : ℕ) (numbers : List H) (marks : List Mark) → length heights ≤ x → AreSetTo x numbers marks → after numbers marks ≡ with_heights before y heights
  all_set x numbers marks done so_far = so_far.is ∙ ap (with_heights before y) (take_all x heights done)

  module _ (whole : IsMap before) (of_type : AreHeightsIn t heights) where
    -- what is set up to a column is a map
    pub set_whole : (x : ℕ) (numbers : List H) (marks : List Mark) → AreSetTo x numbers marks → IsMap (after numbers marks)
    set_whole x numbers marks so_far = subst IsMap (sym so_far.is) (heights_kept before y whole (take x heights) (heights_taken before heights x of_type))

    -- one column more
    pub set_more : (x : ℕ) (numbers : List H) (marks : List Mark) (number d : H) (mark : Mark) (new : Option ℤ) → InGrid s (record { x = x; y = y }) → AreSetTo x numbers marks
        → new ≡ get_or heights x None
        → MatchOption new (number ≡ get_or numbers (place_of s (record { x = x; y = y })) d) (λ z. height number ≡ z)
        → measures mark ≡ (is_some new || measures (get_or marks (place_of s (record { x = x; y = y })) Shown)) → masks mark ≡ masks (get_or marks (place_of s (record { x = x; y = y })) Shown)
        → AreSetTo (x + 1) (set numbers (place_of s (record { x = x; y = y })) number) (set marks (place_of s (record { x = x; y = y })) mark)
    set_more x numbers marks number d mark new inside so_far new_is is measured masked =
        let at : Pos = record { x = x; y = y } in
        let k : ℕ = place_of s at in
        let now_whole = set_whole x numbers marks so_far in
        let was : Mark = get_or marks k Shown in
        let below : k < cell_count s = place_inside s at inside in
        let marked : k < length marks = omega (arith, below, sym (length-map marks masks) ∙ now_whole.masks) in
        let read : was ≡ get_or marks k was = get_or_default marks k Shown was marked in
        let stood : cell_from height (get_or numbers k d) was ≡ cell_at before at =
        sym (cell_read height s t numbers marks adjacency so_far.paired now_whole at k refl below was read d) ∙ ap (λ m. cell_at m at) so_far.is ∙ cell_not_yet before y heights x inside in
        let cell : Cell = cell_with (get_or heights x None) (cell_at before at) in
        let packs : cell_from height number mark ≡ cell = new_cell height new (get_or numbers k d) number was mark is measured ∙ ap₂ cell_with new_is stood in
        record {
          paired = length-set numbers k number ∙ so_far.paired ∙ sym (length-set marks k mark);
          is = cell_set height s t numbers marks adjacency so_far.paired now_whole at k refl below was read number mark cell packs masked
              ∙ ap (λ m. with_cell m at cell) so_far.is ∙ sym (heights_more before y whole heights x inside);
        }
