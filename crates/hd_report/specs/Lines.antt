-- The lines that tell whether a line is accepted.
use Rattle.std.specs.Prelude.{◌++◌, ℕ, List, [], ◌∷◌, codes, decimal}

-- `line N ok`
abbrev pub ok_line : ℕ → List ℕ
ok_line number = codes "line " ++ decimal number ++ codes " ok" ++ 10 ∷ []

-- `line N refused: TEXT`
abbrev pub refused_line : ℕ → List ℕ → List ℕ
refused_line number text = codes "line " ++ decimal number ++ codes " refused: " ++ text ++ 10 ∷ []
