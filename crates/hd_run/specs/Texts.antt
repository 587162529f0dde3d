-- The texts that a run or a check prints beside its answers, each line ended by LF.
use Rattle.std.specs.Prelude.{◌++◌, ℕ, List, [], ◌∷◌, codes}

-- a line
abbrev pub line : List ℕ → List ℕ
line text = text ++ 10 ∷ []

unfoldable pub too_long_text : List ℕ
too_long_text = line (codes "surface refused: file too long")

unfoldable pub accepted_text : List ℕ
accepted_text = line (codes "certificate accepted")

unfoldable pub second_too_long_text : List ℕ
second_too_long_text = line (codes "second input too long")
