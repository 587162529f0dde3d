-- The text of a certificate, by lines and their words.
use Rattle.std.specs.Prelude.{◌≡◌, ◌++◌, ℕ, ℤ, List, [], ◌∷◌, length, map, codes, decimal, Option, Some, None, Result, Ok, Err}
use Rattle.std.specs.Fmt.{signed_decimal}
use Rattle.std.specs.List.{flat_map}
use Rattle.hd_list.specs.declared.list.Memory.{Memory}
use Rattle.hd_map.specs.declared.types.Adjacency.{Adjacency}
use Rattle.hd_map.specs.declared.types.Adjacency.TheVariants.{Four, Six, Eight}
use Rattle.hd_map.specs.declared.types.Pos.{Pos}
use Rattle.hd_map.specs.declared.types.SideName.{SideName}
use Rattle.hd_map.specs.declared.types.SideName.TheVariants.{Dales, Hills}
use Rattle.hd_num.specs.Text.{AppendsPrefix}
use Rattle.hd_check.specs.declared.types.Certificate.{Certificate}

-- the line of these words, with a space between each two, and its line feed
abbrev pub line_text : List (List ℕ) → List ℕ
line_text [] = 10 ∷ []
line_text (word ∷ []) = word ++ 10 ∷ []
line_text (word ∷ next ∷ words) = word ++ 32 ∷ line_text (next ∷ words)

-- `D` or `H`
abbrev pub side_word : SideName → List ℕ
side_word Dales = codes "D"
side_word Hills = codes "H"

-- `4`, `6` or `8`
abbrev pub adjacency_word : Adjacency → List ℕ
adjacency_word Four = codes "4"
adjacency_word Six = codes "6"
adjacency_word Eight = codes "8"

-- the words of a point: its column and its profile
abbrev pub point_words : Pos → List (List ℕ)
point_words p = decimal p.x ∷ decimal p.y ∷ []

-- the line of a point
abbrev pub point_line : Pos → List ℕ
point_line p = line_text (point_words p)

-- the lines of a saddle, and of a path where there is one
abbrev pub saddle_lines : Option (Pos × ℤ) → List Pos → List (List (List ℕ))
saddle_lines (Some s) path = (codes "saddle" ∷ decimal s.0.x ∷ decimal s.0.y ∷ signed_decimal s.1 ∷ []) ∷ (codes "path" ∷ decimal (length path) ∷ []) ∷ map point_words path
saddle_lines None path = (codes "saddle" ∷ codes "none" ∷ []) ∷ []

-- the words of each line of a certificate
abbrev pub certificate_lines : Certificate → List (List (List ℕ))
certificate_lines c = (codes "certificate" ∷ side_word c.side ∷ adjacency_word c.adjacency ∷ [])
    ∷ (codes "from" ∷ point_words c.from)
    ∷ (codes "to" ∷ point_words c.to)
    ∷ (saddle_lines c.saddle c.path ++ ((codes "cut" ∷ decimal (length c.cut) ∷ []) ∷ (map point_words c.cut ++ (codes "end" ∷ []) ∷ [])))

-- the text of a certificate
abbrev pub certificate_text : Certificate → List ℕ
certificate_text c = flat_map line_text (certificate_lines c)

-- the text stands after the old bytes, or where memory was refused a prefix of it
abbrev pub Adds : List ℕ → List ℕ → Result (Unit {0}) Memory → List ℕ → Type 0
Adds old new (Ok x) text = new ≡ old ++ text
Adds old new (Err e) text = AppendsPrefix old new text
