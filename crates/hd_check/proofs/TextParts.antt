-- The text of a certificate by its parts.
use Rattle.std.proofs.Common.{◌≡◌, ◌<◌, ◌+◌, ℕ, List, [], ◌∷◌, ◌++◌, length, map, ap, ◌∙◌, Some}
use Rattle.std.specs.Prelude.{codes, decimal, ℤ}
use Rattle.std.specs.Fmt.{signed_decimal}
use Rattle.std.specs.List.{flat_map}
use Rattle.std.proofs.lemmas.List.Concat.{flat_map-append}
use Rattle.hd_map.specs.declared.types.Pos.{Pos}
use Rattle.hd_check.specs.declared.types.Certificate.{Certificate}
use Rattle.hd_check.specs.Text.{adjacency_word, certificate_text, line_text, point_line, point_words, saddle_lines, side_word}
use Rattle.hd_check.proofs.AppendedTexts.{line_text-counted}

abbrev cut_lines : List Pos → List (List (List ℕ))
cut_lines points = (codes "cut" ∷ decimal (length points) ∷ []) ∷ map point_words points

last_parts : (points : List Pos) → flat_map line_text (cut_lines points ++ (codes "end" ∷ []) ∷ [])
    ≡ (codes "cut " ++ (decimal (length points) ++ 10 ∷ flat_map point_line points)) ++ (codes "end" ++ 10 ∷ [])
last_parts points = flat_map-append line_text (cut_lines points) ((codes "end" ∷ []) ∷ [])
    ∙ ap (λ (t : List ℕ). t ++ (codes "end" ++ 10 ∷ [])) (line_text-counted point_words (codes "cut") (decimal (length points)) points)

pub certificate_text-parts : (c : Certificate) → certificate_text c ≡ line_text (codes "certificate" ∷ side_word c.side ∷ adjacency_word c.adjacency ∷ [])
    ++ (line_text (codes "from" ∷ point_words c.from) ++ (line_text (codes "to" ∷ point_words c.to) ++ (flat_map line_text (saddle_lines c.saddle c.path)
    ++ ((codes "cut " ++ (decimal (length c.cut) ++ 10 ∷ flat_map point_line c.cut)) ++ (codes "end" ++ 10 ∷ [])))))
certificate_text-parts c = ap (λ (t : List ℕ). line_text (codes "certificate" ∷ side_word c.side ∷ adjacency_word c.adjacency ∷ [])
    ++ (line_text (codes "from" ∷ point_words c.from) ++ (line_text (codes "to" ∷ point_words c.to) ++ t)))
    (flat_map-append line_text (saddle_lines c.saddle c.path) (cut_lines c.cut ++ (codes "end" ∷ []) ∷ [])
    ∙ ap (λ (t : List ℕ). flat_map line_text (saddle_lines c.saddle c.path) ++ t) (last_parts c.cut))

-- the same with a path and a cut that are its own
pub certificate_text-parts_at : (c : Certificate) (path cut : List Pos) → path ≡ c.path → cut ≡ c.cut
    → certificate_text c ≡ line_text (codes "certificate" ∷ side_word c.side ∷ adjacency_word c.adjacency ∷ [])
    ++ (line_text (codes "from" ∷ point_words c.from) ++ (line_text (codes "to" ∷ point_words c.to) ++ (flat_map line_text (saddle_lines c.saddle path)
    ++ ((codes "cut " ++ (decimal (length cut) ++ 10 ∷ flat_map point_line cut)) ++ (codes "end" ++ 10 ∷ [])))))
certificate_text-parts_at c path cut e f = rw (e, f) (certificate_text-parts c)

-- the lines of a saddle and of a path by their parts
pub saddle_lines-parts : (s : Pos × ℤ) (path : List Pos) → flat_map line_text (saddle_lines (Some s) path)
    ≡ line_text (codes "saddle" ∷ decimal s.0.x ∷ decimal s.0.y ∷ signed_decimal s.1 ∷ []) ++ (codes "path " ++ (decimal (length path) ++ 10 ∷ flat_map point_line path))
saddle_lines-parts s path = ap (λ (t : List ℕ). line_text (codes "saddle" ∷ decimal s.0.x ∷ decimal s.0.y ∷ signed_decimal s.1 ∷ []) ++ t)
    (line_text-counted point_words (codes "path") (decimal (length path)) path)
