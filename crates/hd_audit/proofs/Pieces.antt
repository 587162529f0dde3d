-- A certificate is read on by a piece.
use Rattle.std.proofs.Common.{◌≡◌, ℕ, List, [], ◌++◌, map, Err, refl, sym, ap, ◌∙◌, append_assoc, append-nil, zero, suc}
use Rattle.std.proofs.lemmas.List.{map-append}
use Rattle.hd_check.specs.declared.types.CertificateError.{CertificateError}
use Rattle.hd_check.specs.declared.types.CertificateError.TheVariants.{BadLine}
use Rattle.hd_check.specs.Reading.{value_of}
use Rattle.hd_num.specs.Lines.{lines_of, words_of}
use Rattle.hd_audit.specs.declared.stage.Stage.{Stage}
use Rattle.hd_audit.specs.declared.stage.Stage.TheVariants.{End, Head, Nothing, Points}
use Rattle.hd_audit.specs.declared.types.Audit.{Audit}
use Rattle.hd_audit.specs.declared.types.AuditLine.{AuditLine}
use Rattle.hd_audit.specs.declared.words.AuditHead as words
use Rattle.hd_audit.specs.Pieces.{EndsLine, IsCutAfterLine}
use Rattle.hd_audit.specs.Stages.{Leads, go_on, numbered, words_in}
use Rattle.hd_audit.proofs.Stages.{points_on}

-- what ends a line, and then more
words_joined : (front more : List ℕ) → EndsLine front → words_in (front ++ more) ≡ words_in front ++ words_in more
words_joined front more ends = ap (map words_of) (ends more) ∙ map-append words_of (lines_of front) (lines_of more)

-- the first line of a piece is whole with what had come of it
pub words_in-first : (rest first others piece line : List ℕ) → line ≡ rest ++ first → IsCutAfterLine piece first others → (more : List ℕ)
    → words_in (rest ++ (piece ++ more)) ≡ words_in line ++ words_in (others ++ more)
words_in-first rest first others piece line is cut more =
    ap words_in (ap (λ (xs : List ℕ). rest ++ (xs ++ more)) cut.whole ∙ ap (λ (xs : List ℕ). rest ++ xs) (append_assoc first others more) ∙ sym (append_assoc rest first (others ++ more)))
    ∙ words_joined (rest ++ first) (others ++ more) (cut.ends rest) ∙ ap (λ (xs : List ℕ). words_in xs ++ words_in (others ++ more)) (sym is)

-- then come its other lines
pub words_in-others : (others lines end : List ℕ) → others ≡ lines ++ end → EndsLine lines → (more : List ℕ) → words_in (others ++ more) ≡ words_in lines ++ words_in (end ++ more)
words_in-others others lines end whole ends more =
    ap (λ (xs : List ℕ). words_in (xs ++ more)) whole ∙ ap words_in (append_assoc lines end more) ∙ words_joined lines (end ++ more) ends

-- the lines at the front are read on, or refused
module _ (stage : Stage) (number : ℕ) (lines front back : List (List (List ℕ))) (joined : lines ≡ front ++ back) where
  pub go_on-front : (new : Stage) (next : ℕ) → Leads stage number front new next → go_on stage (numbered number lines) ≡ go_on new (numbered next back)
  go_on-front new next leads = ap (λ (ls : List (List (List ℕ))). go_on stage (numbered number ls)) joined ∙ leads back

  pub go_on-refused : (e : CertificateError) → ((more : List (List (List ℕ))) → go_on stage (numbered number (front ++ more)) ≡ Err e) → go_on stage (numbered number lines) ≡ Err e
  go_on-refused e refuses = ap (λ (ls : List (List (List ℕ))). go_on stage (numbered number ls)) joined ∙ refuses back

-- the last line of a text
pub words_in-last : (rest line : List ℕ) → line ≡ rest → words_in (rest ++ []) ≡ words_in line ++ []
words_in-last rest line is = ap words_in (append-nil rest ∙ sym is) ∙ sym (append-nil (words_in line))

-- no point is read where no line is left
no_points : (head : words.AuditHead) (lines : List AuditLine) (left number : ℕ) → value_of (points_on head lines left (numbered number [])) ≡ Err (BadLine number)
no_points head lines zero number = refl
no_points head lines (suc left) number = refl

-- a certificate whose last line is not read ends too early
pub go_on-ends_early : (stage : Stage) (number : ℕ) → ((audit : Audit) → stage ≡ End audit → ⊥) → value_of (go_on stage (numbered number [])) ≡ Err (BadLine number)
go_on-ends_early Nothing number early = refl
go_on-ends_early (Head head) number early = refl
go_on-ends_early (Points p) number early = no_points p.head p.lines p.left number
go_on-ends_early (End audit) number early = absurd (early audit refl)
