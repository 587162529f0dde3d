-- The changes that new heights of a profile make, column by column.
use Rattle.std.proofs.Common.{◌≡◌, ◌+◌, ℕ, ℤ, Option, None, List, Bool, true, false, All, length, get_or, take, inl, inr, sym, ap, subst, ◌∙◌, arith}
use Rattle.std.proofs.lemmas.List.{length_push, set-get_or}
use Rattle.std.proofs.lemmas.List.Elements.{All-push}
use Rattle.hd_map.specs.declared.types.Pos.{Pos}
use Rattle.hd_map.specs.declared.types.Cell.{Cell}
use Rattle.hd_map.specs.declared.types.Cell.TheVariants.{Height, Bad}
use Rattle.hd_map.specs.declared.types.DataType.{DataType}
use Rattle.hd_map.specs.Map.{Map, IsMap, InGrid, cell_at, place_of, shown_height}
use Rattle.hd_map.specs.Sets.{cell_with, with_cell, with_heights}
use Rattle.hd_map.proofs.Points.{place_inside}
use Rattle.hd_map.proofs.Sets.{cell_not_yet, heights_more, heights_none}
use Rattle.hd_edit.specs.declared.change.Change.{Change}
use Rattle.hd_edit.specs.Change.{IsCellThatWas, IsChange, before_changes}
use Rattle.hd_edit.specs.Profile.{AreNotedChanges, IsNotedCell, IsToldCell}
use Rattle.hd_edit.proofs.Changes.{before_changes-cell, IsWasOf-cell, IsCellOf-cell_at}

-- a cell that is set to itself stays
with_cell-same : (m : Map) (at : Pos) (cell : Cell) → cell ≡ cell_at m at → with_cell m at cell ≡ m
with_cell-same m at cell same = ap (with_cell m at) same ∙ ap (λ (cs : List Cell). record m { cells = cs }) (set-get_or m.cells (place_of m.size at) Bad)

-- a height that shows tells the cell
pub shown_height-told : (cell : Cell) (masked : Bool) → IsToldCell (shown_height cell masked) cell
shown_height-told (Height h) false z is = cc
shown_height-told (Height h) true z is = absurd (cc is)
shown_height-told Bad masked z is = absurd (cc is)

module _ (m : Map) (y : ℕ) (heights : List (Option ℤ)) (whole : IsMap m) where
  -- before the first column
  pub AreNotedChanges-none : (notes : List Change) → All (IsChange m) notes → AreNotedChanges m (with_heights m y (take 0 heights)) 0 notes notes
  AreNotedChanges-none notes are = record { undone = ap (before_changes notes) (heights_none m y whole); each = are; few = omega arith }

  module _ (x : ℕ) (inside : InGrid m.size (record { x = x; y = y })) where
    abbrev at : Pos
    at = record { x = x; y = y }

    -- the map with the heights up to the column, and up to the next
    abbrev now : Map
    now = with_heights m y (take x heights)

    abbrev after : Map
    after = with_heights m y (take (x + 1) heights)

    -- one column more
    pub AreNotedChanges-more : (old : Map) (most : ℕ) (earlier notes notes' : List Change) (type : DataType) (index : ℕ) (height : Option ℤ) → old.size ≡ m.size
        → old.data_type ≡ m.data_type → type ≡ m.data_type → index ≡ place_of m.size (record { x = x; y = y })
        → height ≡ get_or heights x None → AreNotedChanges old (with_heights m y (take x heights)) most earlier notes
        → IsNotedCell type index (cell_at m (record { x = x; y = y })) (cell_with height (cell_at m (record { x = x; y = y }))) notes notes'
        → AreNotedChanges old (with_heights m y (take (x + 1) heights)) (most + 1) earlier notes'
    AreNotedChanges-more old most earlier notes notes' type index height old_size old_type same place there so noted =
        let cell : Cell = cell_at m at in
        let new : Cell = cell_with height cell in
        let as_now : cell ≡ cell_at now at = sym (cell_not_yet m y heights x inside) in
        let one_more : after ≡ with_cell now at new = heights_more m y whole heights x inside ∙ ap (λ (v : Option ℤ). with_cell now at (cell_with v cell)) (sym there) in
        elim noted [
          | inl stays ↦ record {
            undone = ap (λ (cs : List Change). before_changes cs after) stays.1 ∙ ap (before_changes notes) (one_more ∙ with_cell-same now at new (sym stays.0 ∙ as_now)) ∙ so.undone;
            each = rw stays.1 so.each;
            few = let len = ap (λ (cs : List Change). length cs) stays.1 in omega (arith, len, so.few);
          }
          | inr other ↦
              let c : Change = record { index = index; was = other.0 } in
              let was : IsCellThatWas m.data_type other.0 cell = subst (λ (t : DataType). IsCellThatWas t other.0 cell) same other.2 in
              record {
                undone = before_changes-cell now after notes notes' at index cell new other.0 other.3 place was as_now one_more ∙ so.undone;
                each = rw other.3 (All-push (IsChange old) notes c so.each (record {
                  inside = rw (old_size, place) (place_inside m.size at inside);
                  height = rw old_type (IsWasOf-cell m.data_type other.0 cell was (IsCellOf-cell_at m whole at inside));
                }));
                few = let len = ap (λ (cs : List Change). length cs) other.3 in omega (arith, len, length_push notes c, so.few);
              }
        ]
