-- The text of a pruning certificate, by lines and their words.
use Rattle.std.specs.Prelude.{◌++◌, ℕ, List, [], ◌∷◌, length, map, codes, decimal, Option, Some, None}
use Rattle.std.specs.List.{flat_map}
use Rattle.hd_num.specs.Percent.{percent_text}
use Rattle.hd_check.specs.Text.{adjacency_word, line_text, side_word}
use Rattle.hd_audit.specs.declared.types.Audit.{Audit}
use Rattle.hd_audit.specs.declared.types.AuditLine.{AuditLine}

-- a count, or `-` for none
abbrev pub count_word : Option ℕ → List ℕ
count_word (Some n) = decimal n
count_word None = codes "-"

-- the words `INDEX PARENT CUT`
abbrev pub point_words : AuditLine → List (List ℕ)
point_words x = decimal x.index ∷ count_word x.parent ∷ count_word x.cut ∷ []

-- the line of a point
abbrev pub point_line : AuditLine → List ℕ
point_line x = line_text (point_words x)

-- the words of each line of a certificate
abbrev pub audit_lines : Audit → List (List (List ℕ))
audit_lines a = (codes "pruning" ∷ side_word a.side ∷ percent_text a.percent.thousandths ∷ adjacency_word a.adjacency ∷ [])
    ∷ (codes "points" ∷ decimal (length a.lines) ∷ [])
    ∷ (map point_words a.lines ++ (codes "end" ∷ []) ∷ [])

-- the text of a certificate
abbrev pub audit_text : Audit → List ℕ
audit_text a = flat_map line_text (audit_lines a)
