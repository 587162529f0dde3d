-- The lines of elements, and why a table makes none.
use Rattle.std.specs.Prelude.{◌++◌, ℕ, List, [], ◌∷◌, length, codes, decimal}
use Rattle.std.specs.List.{flat_map}
use Rattle.hd_morph.specs.declared.errors.ElementError.{ElementError}
use Rattle.hd_morph.specs.declared.errors.ElementError.TheVariants.{EvenSize, TooWide, NoOrigin}
use Rattle.hd_edit.specs.declared.elements.ElementLine.{ElementLine}

-- why a table makes no element
abbrev pub element_text : ElementError → List ℕ
element_text EvenSize = codes "element size is even"
element_text TooWide = codes "element is wider than 15"
element_text NoOrigin = codes "element has no origin"

-- `element NAME W H`
abbrev pub element_line : ElementLine → List ℕ
element_line line = codes "element " ++ line.name ++ 32 ∷ [] ++ decimal line.width ++ 32 ∷ [] ++ decimal line.height ++ 10 ∷ []

-- how many elements there are, and a line for each
abbrev pub elements_text : List ElementLine → List ℕ
elements_text lines = codes "elements " ++ decimal (length lines) ++ 10 ∷ [] ++ flat_map element_line lines
