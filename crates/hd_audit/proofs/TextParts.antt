-- The text of a pruning certificate by its parts.
use Rattle.std.proofs.Common.{◌≡◌, ℕ, List, [], ◌∷◌, ◌++◌, length, map, ap, ◌∙◌, refl}
use Rattle.std.specs.Prelude.{codes, decimal}
use Rattle.std.specs.List.{flat_map}
use Rattle.std.proofs.lemmas.List.Concat.{flat_map-append}
use Rattle.hd_map.specs.declared.types.SideName.{SideName}
use Rattle.hd_map.specs.declared.types.SideName.TheVariants.{Dales, Hills}
use Rattle.hd_num.specs.Percent.{percent_text}
use Rattle.hd_check.specs.Text.{adjacency_word, line_text, side_word}
use Rattle.hd_check.proofs.AppendedTexts.{line_text-counted}
use Rattle.hd_audit.specs.declared.types.Audit.{Audit}
use Rattle.hd_audit.specs.declared.types.AuditLine.{AuditLine}
use Rattle.hd_audit.specs.Text.{audit_text, point_line, point_words}

-- the first line
pub audit_text-head : (side : SideName) (percent setting : List ℕ) → line_text (codes "pruning" ∷ side_word side ∷ percent ∷ setting ∷ [])
    ≡ codes "pruning " ++ ((side_word side ++ codes " ") ++ (percent ++ (codes " " ++ (setting ++ 10 ∷ []))))
audit_text-head Dales percent setting = refl
audit_text-head Hills percent setting = refl

-- the number of points, and their lines
abbrev pub points_text : List AuditLine → List ℕ
points_text points = codes "points " ++ (decimal (length points) ++ 10 ∷ flat_map point_line points)

abbrev points_lines : List AuditLine → List (List (List ℕ))
points_lines points = (codes "points" ∷ decimal (length points) ∷ []) ∷ map point_words points

-- the whole text
pub audit_text-parts : (a : Audit) (points : List AuditLine) → points ≡ a.lines → audit_text a
    ≡ line_text (codes "pruning" ∷ side_word a.side ∷ percent_text a.percent.thousandths ∷ adjacency_word a.adjacency ∷ []) ++ (points_text points ++ (codes "end" ++ 10 ∷ []))
audit_text-parts a points e =
    let head : List ℕ = line_text (codes "pruning" ∷ side_word a.side ∷ percent_text a.percent.thousandths ∷ adjacency_word a.adjacency ∷ []) in
    rw e (ap (λ (t : List ℕ). head ++ t)
    (flat_map-append line_text (points_lines a.lines) ((codes "end" ∷ []) ∷ []) ∙ ap (λ (t : List ℕ). t ++ (codes "end" ++ 10 ∷ []))
    (line_text-counted point_words (codes "points") (decimal (length a.lines)) a.lines)))
