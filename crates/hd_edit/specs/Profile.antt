-- The notes of what the cells of a profile were that became others.
use Rattle.std.specs.Prelude.{◌≡◌, ◌≢◌, ◌≤◌, ◌+◌, ◌⊎◌, ◌++◌, ◌∷◌, [], ℕ, ℤ, List, length, Option, Some, All}
use Rattle.hd_map.specs.declared.types.Cell.{Cell}
use Rattle.hd_map.specs.declared.types.Cell.TheVariants.{Height}
use Rattle.hd_map.specs.declared.types.DataType.{DataType}
use Rattle.hd_map.specs.Map.{Map}
use Rattle.hd_edit.specs.declared.change.Change.{Change}
use Rattle.hd_edit.specs.declared.change.Was.{Was}
use Rattle.hd_edit.specs.Change.{IsCellThatWas, IsChange, before_changes}

-- the cell is the height that is told, where one is
abbrev pub IsToldCell : Option ℤ → Cell → Type 0
IsToldCell told cell = (z : ℤ) → told ≡ Some z → cell ≡ Height z

-- after earlier changes it is noted what the cell at an index was, exactly if the new one is another
abbrev pub IsNotedCell : DataType → ℕ → Cell → Cell → List Change → List Change → Type 0
IsNotedCell type index old new earlier notes =
    ((old ≡ new) × (notes ≡ earlier))
    ⊎ ((w : Was) × (old ≢ new) × IsCellThatWas type w old × (notes ≡ earlier ++ (record { index = index; was = w }) ∷ []))

-- after earlier changes those are noted, at most so many, by which an old map becomes a new one
pub record AreNotedChanges (old new : Map) (most : ℕ) (earlier notes : List Change) : Type 0 where
  -- with all of them undone, the map is that before the earlier ones
  pub undone : before_changes notes new ≡ before_changes earlier old
  pub each : All (IsChange old) notes
  pub few : length notes ≤ length earlier + most
