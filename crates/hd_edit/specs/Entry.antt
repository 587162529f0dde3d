-- What an edit is undone by: its changes, or the heights that stood before it.
use Rattle.std.specs.Prelude.{◌≡◌, ℤ, List, length, Option}
use Rattle.hd_map.specs.declared.types.Size.{Size}
use Rattle.hd_map.specs.declared.types.DataType.{DataType}
use Rattle.hd_map.specs.Map.{Map, cell_count}
use Rattle.hd_map.specs.Sets.{AreHeightsIn}
use Rattle.hd_morph.specs.Answer.{with_cells}
use Rattle.hd_morph.specs.NewHeights.{cells_after}
use Rattle.hd_morph.specs.Numbers.{heights_in}
use Rattle.hd_edit.specs.declared.entry.Entry.{Entry}
use Rattle.hd_edit.specs.declared.entry.Entry.TheVariants as entry
use Rattle.hd_edit.specs.Change.{before_changes, AreChangesIn}

-- the map before an edit: its changes undone, or the heights of its points put back; where there is none the cell
-- stays, and the masks stay
abbrev pub before_entry : Entry → Map → Map
before_entry (entry.Changes changes) m = before_changes changes m
before_entry (entry.Heights numbers) m = with_cells m (cells_after m (heights_in numbers))

-- heights of a map of this size and type, by index
pub record AreHeightsFor (size : Size) (type : DataType) (heights : List (Option ℤ)) : Type 0 where
  pub whole : length heights ≡ cell_count size
  pub of_type : AreHeightsIn type heights

-- what an edit of a map of this size and type is undone by
abbrev pub IsEntryIn : Size → DataType → Entry → Type 0
IsEntryIn size type (entry.Changes changes) = AreChangesIn size type changes
IsEntryIn size type (entry.Heights numbers) = AreHeightsFor size type (heights_in numbers)

abbrev pub IsEntry : Map → Entry → Type 0
IsEntry m = IsEntryIn m.size m.data_type
