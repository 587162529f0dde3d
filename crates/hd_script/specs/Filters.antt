-- The edits by filters.
use Rattle.std.specs.Prelude.{ℕ, List}
use Rattle.hd_edit.specs.declared.edit.Edit.{Edit}
use Rattle.hd_edit.specs.declared.edit.Edit.TheVariants.{Dilate, Erode, Open, Close}
use Rattle.hd_script.specs.declared.filters.FilterWord.{FilterWord}
use Rattle.hd_script.specs.declared.filters.FilterWord.TheVariants as filter

-- the edit by a filter with the element of a name
abbrev pub edit_by : FilterWord → List ℕ → Edit
edit_by filter.Dilate = Dilate
edit_by filter.Erode = Erode
edit_by filter.Open = Open
edit_by filter.Close = Close
