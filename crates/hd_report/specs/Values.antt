-- The lines of the values of parameters and notations.
use Rattle.std.specs.Prelude.{◌++◌, ℕ, ℤ, List, [], ◌∷◌, Option, Some, None, codes}
use Rattle.std.specs.Fmt.{signed_decimal}
use Rattle.hd_num.specs.declared.frac.Frac.{Frac}
use Rattle.hd_num.specs.Frac.{frac_text}

-- a fraction or `none`
abbrev pub value_text : Option Frac → List ℕ
value_text None = codes "none"
value_text (Some f) = frac_text f.num f.den

-- a height with a space before it, or nothing
abbrev pub height_text : Option ℤ → List ℕ
height_text None = []
height_text (Some c) = 32 ∷ [] ++ signed_decimal c

-- a command, a name, a height where there is one, and the value
abbrev pub named_line : List ℕ → List ℕ → Option ℤ → Option Frac → List ℕ
named_line command name height value = command ++ name ++ height_text height ++ 32 ∷ [] ++ value_text value ++ 10 ∷ []

-- `param NAME VALUE` or `param NAME C VALUE`
abbrev pub param_line : List ℕ → Option ℤ → Option Frac → List ℕ
param_line name height value = named_line (codes "param ") name height value

-- `height NAME VALUE` or `height NAME C VALUE`
abbrev pub height_line : List ℕ → Option ℤ → Option Frac → List ℕ
height_line name height value = named_line (codes "height ") name height value

-- `feature WORD VALUE`
abbrev pub feature_line : List ℕ → Option Frac → List ℕ
feature_line word value = codes "feature " ++ word ++ 32 ∷ [] ++ value_text value ++ 10 ∷ []
