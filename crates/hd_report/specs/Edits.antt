-- Why edits and undo are refused.
use Rattle.std.specs.Prelude.{◌++◌, ℕ, List, [], codes, decimal}
use Rattle.hd_edit.specs.declared.edit.EditError.{EditError}
use Rattle.hd_edit.specs.declared.edit.EditError.TheVariants.{Memory, Outside, HeightRange, EmptyRect, NoElement}
use Rattle.hd_report.specs.Place.{place_text}
use Rattle.hd_report.specs.Points.{outside_text}

-- why an edit is refused; want of memory has no text
abbrev pub edit_text : EditError → List ℕ
edit_text Memory = []
edit_text (Outside at) = outside_text at
edit_text (HeightRange at) = codes "height out of range at " ++ place_text at
edit_text EmptyRect = codes "empty rectangle"
edit_text NoElement = codes "no element of this name"

-- `only K edits kept`
abbrev pub kept_text : ℕ → List ℕ
kept_text kept = codes "only " ++ decimal kept ++ codes " edits kept"
