-- What a change of one cell or mask was made from, and the map before it.
use Rattle.std.specs.Prelude.{◌≡◌, ◌<◌, ◌≤◌, ◌+ℤ◌, ℕ, ℤ, pos, List, [], ◌∷◌, length, slice_set, All}
use Rattle.hd_map.specs.declared.types.Size.{Size}
use Rattle.hd_map.specs.declared.types.Cell.{Cell}
use Rattle.hd_map.specs.declared.types.Cell.TheVariants.{Height, Bad}
use Rattle.hd_map.specs.declared.types.DataType.{DataType}
use Rattle.hd_map.specs.Map.{Map, IsCellOf, cell_count, least_height}
use Rattle.hd_edit.specs.declared.change.Change.{Change}
use Rattle.hd_edit.specs.declared.change.Was.{Was}
use Rattle.hd_edit.specs.declared.change.Was.TheVariants as was
use Rattle.hd_edit.specs.declared.height_bytes.OverLeast.{OverLeast}
use Rattle.hd_edit.specs.SevenBytes.{number_of}

-- the height that is this much over the least one of a data type
abbrev pub height_over : DataType → OverLeast → ℤ
height_over type over = least_height type +ℤ pos (number_of over)

-- what stood there is this cell of the data type
abbrev pub IsCellThatWas : DataType → Was → Cell → Type 0
IsCellThatWas type (was.Height over) cell = cell ≡ Height (height_over type over)
IsCellThatWas type was.Bad cell = cell ≡ Bad
IsCellThatWas type (was.Mask masked) cell = ⊥

-- the map with what stood at an index put back
abbrev pub with_was : Was → ℕ → Map → Map
with_was (was.Height over) k m = record m { cells = slice_set m.cells k (Height (height_over m.data_type over)) }
with_was was.Bad k m = record m { cells = slice_set m.cells k Bad }
with_was (was.Mask masked) k m = record m { masks = slice_set m.masks k masked }

-- the map before a list of changes, the last of which was made last
abbrev pub before_changes : List Change → Map → Map
before_changes [] m = m
before_changes (c ∷ cs) m = with_was c.was c.index (before_changes cs m)

-- what stood there is no height, or one of the data type
abbrev pub IsWasOf : DataType → Was → Type 0
IsWasOf type (was.Height over) = IsCellOf type (Height (height_over type over))
IsWasOf type was.Bad = Unit {0}
IsWasOf type (was.Mask masked) = Unit {0}

-- a change of a map of this size and type
pub record IsChangeIn (size : Size) (type : DataType) (c : Change) : Type 0 where
  pub inside : c.index < cell_count size
  pub height : IsWasOf type c.was

abbrev pub IsChange : Map → Change → Type 0
IsChange m = IsChangeIn m.size m.data_type

-- the changes of one edit of a map of this size and type
pub record AreChangesIn (size : Size) (type : DataType) (cs : List Change) : Type 0 where
  pub each : All (IsChangeIn size type) cs
  pub few : length cs ≤ cell_count size

abbrev pub AreChanges : Map → List Change → Type 0
AreChanges m = AreChangesIn m.size m.data_type
