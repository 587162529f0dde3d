-- A text that is written piece by piece.
use Rattle.std.proofs.Common.{◌≡◌, ◌≤◌, ℕ, List, [], ◌++◌, length, take, drop, sym, ap, subst, ◌∙◌, arith, append-nil, length-append}
use Rattle.std.specs.Io.KnownBytes.{Appends}
use Rattle.std.proofs.Math.Seq.{drop-append_seam, take-append_seam}
use Rattle.std.proofs.lemmas.List.{take-append-drop, take-append-le}
use Rattle.hd_base.specs.Told.{AppendsPart, Told}
use Rattle.hd_base.proofs.Pieces.{AreWritten, AreWritten-more}
use Rattle.hd_base.proofs.Told.{AppendsPart-after}

-- a piece of what was left is written
pub AreWritten-piece : (old mid new : Told) (text left piece rest : List ℕ) → left ≡ piece ++ rest → Appends mid new piece → AreWritten old mid text left → AreWritten old new text rest
AreWritten-piece old mid new text left piece rest joined more written =
    let first : take (length piece) left ≡ piece = ap (take (length piece)) joined ∙ take-append_seam piece rest in
    let behind : drop (length piece) left ≡ rest = ap (drop (length piece)) joined ∙ drop-append_seam piece rest in
    let fits : length piece ≤ length left = omega (arith, ap length joined, length-append piece rest) in
    subst (AreWritten old new text) behind (AreWritten-more old mid new text left (length piece) fits (subst (Appends mid new) (sym first) more) written)

-- nothing is left
pub AreWritten-all : (old new : Told) (text left : List ℕ) → left ≡ [] → AreWritten old new text left → Appends old new text
AreWritten-all old new text left none written =
    let whole : take written.count text ≡ text =
    sym (append-nil (take written.count text)) ∙ ap (λ (t : List ℕ). take written.count text ++ t) (sym none ∙ written.rest_is) ∙ take-append-drop written.count text in
    subst (Appends old new) whole written.taken

-- not all of a piece is not all of the text that it begins
part_longer : (old new : Told) (piece rest : List ℕ) → AppendsPart old new piece → AppendsPart old new (piece ++ rest)
part_longer old new piece rest (got, begins, short, written) =
    (got, take-append-le (length got) piece rest (omega (arith, short)) ∙ begins, omega (arith, short, length-append piece rest), written)

-- not all of a piece is written
pub AreWritten-part : (old mid new : Told) (text left piece rest : List ℕ) → left ≡ piece ++ rest → AppendsPart mid new piece → AreWritten old mid text left → AppendsPart old new text
AreWritten-part old mid new text left piece rest joined part written =
    let whole : take written.count text ++ left ≡ text = ap (λ (t : List ℕ). take written.count text ++ t) written.rest_is ∙ take-append-drop written.count text in
    subst (AppendsPart old new) whole
    (AppendsPart-after old mid new (take written.count text) left written.taken (subst (AppendsPart mid new) (sym joined) (part_longer mid new piece rest part)))
