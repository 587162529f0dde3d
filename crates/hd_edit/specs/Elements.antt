-- The elements of a board, in the order of their first naming.
use Rattle.std.specs.Prelude.{ℕ, Bool, List, [], ◌∷◌, Option, Some, None, if◌then◌else◌, nat_eq}
use Rattle.std.specs.Cmp.Lexicographic.{pointwise}
use Rattle.hd_morph.specs.Element.{ElementTable}
use Rattle.hd_edit.specs.declared.elements.ElementLine.{ElementLine}

-- whether two names are one
abbrev pub same_name : List ℕ → List ℕ → Bool
same_name = pointwise nat_eq

-- the first element of a name
abbrev pub first_named : List ElementTable → List ℕ → Option ElementTable
first_named [] name = None
first_named (e ∷ es) name = if same_name name e.name then Some e else first_named es name

-- the elements with one more: a known name keeps its place and takes the new table, and a new name
-- goes last
abbrev pub elements_with : List ElementTable → ElementTable → List ElementTable
elements_with [] e = e ∷ []
elements_with (f ∷ fs) e = if same_name e.name f.name then e ∷ fs else f ∷ elements_with fs e

-- the name and the sizes of an element
abbrev pub line_of : ElementTable → ElementLine
line_of e = record { name = e.name; width = e.width; height = e.height }
