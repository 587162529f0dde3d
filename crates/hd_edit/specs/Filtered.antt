-- The new heights of a filter, and what its refusals become.
use Rattle.std.specs.Prelude.{◌≡◌, ℤ, List, Option, None}
use Rattle.hd_map.specs.declared.types.Pos.{Pos}
use Rattle.hd_map.specs.Encoding.{Encoding, most_filtered, narrow, wide, values_of}
use Rattle.hd_map.specs.Map.{Map, AreCellsOf, InGrid, cell_at, height_at, place_of}
use Rattle.hd_morph.specs.declared.new_heights.OldAndNew.{OldAndNew}
use Rattle.hd_morph.specs.declared.new_heights.OldAndNew.TheVariants.{Narrow, Wide}
use Rattle.hd_morph.specs.Listed.{AreHeightsOf}
use Rattle.hd_morph.specs.Plain.{ArePlain}
use Rattle.hd_morph.specs.Answer.{with_cells}
use Rattle.hd_morph.specs.NewHeights.{cell_after, cells_after}
use Rattle.hd_morph.specs.declared.errors.MorphError.{MorphError}
use Rattle.hd_morph.specs.declared.errors.MorphError.TheVariants as morph
use Rattle.hd_edit.specs.declared.edit.EditError.{EditError}
use Rattle.hd_edit.specs.declared.edit.EditError.TheVariants.{Memory, HeightRange}

-- the refusal of a filter as one of an edit
abbrev pub refusal_of : MorphError → EditError
refusal_of morph.Memory = Memory
refusal_of (morph.HeightRange p) = HeightRange p

-- with these heights the cell of a position stays where no point is present
abbrev pub LeavesOthers : Map → List (Option ℤ) → Type 0
LeavesOthers m heights =
    (p : Pos) → InGrid m.size p → height_at m p ≡ None → cell_after m heights (place_of m.size p) ≡ cell_at m p

-- plain numbers stand for the heights of a map, and others for new ones of its type, which leave the cell of a
-- position where no point is present
pub record AreNewFor {L : Type 0} (code : Encoding L) (m : Map) (olds news : List L) : Type 0 where
  pub held : AreHeightsOf code m olds
  pub plain : ArePlain code m.size (most_filtered code) news
  pub of_type : AreCellsOf m.data_type (cells_after m (values_of code news))
  pub others : LeavesOthers m (values_of code news)

-- the same of lists of either type
abbrev pub IsNewFor : Map → OldAndNew → Type 0
IsNewFor m (Narrow lists) = AreNewFor narrow m lists.before.items lists.after.items
IsNewFor m (Wide lists) = AreNewFor wide m lists.before.items lists.after.items

-- the new heights
abbrev pub heights_after : OldAndNew → List (Option ℤ)
heights_after (Narrow lists) = values_of narrow lists.after.items
heights_after (Wide lists) = values_of wide lists.after.items

-- the map with them
abbrev pub map_after : Map → OldAndNew → Map
map_after m lists = with_cells m (cells_after m (heights_after lists))
