-- The changes that notes of heights stand for, and which changes are noted so.
use Rattle.std.specs.Prelude.{◌≡◌, ◌<◌, ◌≤◌, ◌+◌, ◌^◌, ◌++◌, ◌∷◌, [], ℕ, List}
use Rattle.hd_edit.specs.declared.change.Change.{Change}
use Rattle.hd_edit.specs.declared.change.Was.{Was}
use Rattle.hd_edit.specs.declared.change.Was.TheVariants as was
use Rattle.hd_edit.specs.declared.notes.HeightNote.{HeightNote}
use Rattle.hd_edit.specs.declared.height_bytes.OverLeast.{OverLeast}
use Rattle.hd_edit.specs.SevenBytes.{number_of, widened}

-- the change that a note tells after one at an index
abbrev pub note_at : ℕ → HeightNote → Change
note_at before note = record { index = before + note.distance; was = was.Height (widened note.over) }

-- those that notes tell, one after the other
abbrev pub changes_after : ℕ → List HeightNote → List Change
changes_after before [] = []
changes_after before (note ∷ notes) = note_at before note ∷ changes_after (before + note.distance) notes

-- the index of the last of them
abbrev pub last_after : ℕ → List HeightNote → ℕ
last_after before [] = before
last_after before (note ∷ notes) = last_after (before + note.distance) notes

-- after earlier changes it is noted that the cell at an index was the height this much over the least one
abbrev pub IsNotedHeight : ℕ → ℕ → List Change → List Change → Type 0
IsNotedHeight index number earlier notes =
    (over : OverLeast) × (number_of over ≡ number)
    × (notes ≡ earlier ++ (record { index = index; was = was.Height over }) ∷ [])

-- it was a height less than 2 ^ 32 over the least one
abbrev pub IsLow : Was → Type 0
IsLow (was.Height over) = number_of over < 2 ^ 32
IsLow was.Bad = ⊥
IsLow (was.Mask masked) = ⊥

-- one index is not before another, and at most 65,535 after it
abbrev pub IsShortlyAfter : ℕ → ℕ → Type 0
IsShortlyAfter last index = (last ≤ index) × (index ≤ last + 65535)

-- a change can be noted as a height after the one at an index
abbrev pub FitsAfter : ℕ → Change → Type 0
FitsAfter last change = IsLow change.was × IsShortlyAfter last change.index

-- the first of some changes, if there is one, can't be noted as a height after the one at an index
abbrev pub BeginsUnfit : ℕ → List Change → Type 0
BeginsUnfit last changes = (first : Change) (more : List Change) → changes ≡ first ∷ more → FitsAfter last first → ⊥
