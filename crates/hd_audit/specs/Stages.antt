-- What a certificate can still become whose first lines are read.
use Rattle.std.specs.Prelude.{◌≡◌, ◌+◌, ◌≤◌, ◌⊎◌, ◌++◌, ℕ, List, [], ◌∷◌, length, map, Result, Ok, Err}
use Rattle.hd_check.specs.declared.types.CertificateError.{CertificateError}
use Rattle.hd_check.specs.declared.types.CertificateError.TheVariants.{Memory}
use Rattle.hd_check.specs.Reading.{Lines, Read, and_then, blank_lines_in, end_in}
use Rattle.hd_num.specs.Lines.{lines_of, words_of}
use Rattle.hd_audit.specs.declared.stage.Stage.{Stage}
use Rattle.hd_audit.specs.declared.stage.Stage.TheVariants as stages
use Rattle.hd_audit.specs.declared.types.Audit.{Audit}
use Rattle.hd_audit.specs.declared.types.AuditLine.{AuditLine}
use Rattle.hd_audit.specs.declared.words.AuditHead.{AuditHead}
use Rattle.hd_audit.specs.Reading.{audit_in, counted_in, points_in}

-- the words of each line of a text
abbrev pub words_in : List ℕ → List (List (List ℕ))
words_in text = map words_of (lines_of text)

-- these lines, the first of which has this number
abbrev pub numbered : ℕ → List (List (List ℕ)) → Lines
numbered number lines = record { number = number; lines = lines }

-- the last lines of a certificate, after the others
abbrev pub after_points : AuditHead → List AuditLine → Lines → Read Audit
after_points head lines rest = and_then (end_in rest) (λ _ rest. Ok (record { side = head.side; percent = head.percent; adjacency = head.adjacency; lines = lines }, rest))

-- its points and what follows
abbrev pub after_head : AuditHead → Lines → Read Audit
after_head head rest = and_then (counted_in rest) (after_points head)

-- the certificate, or the first line that has not its form, where these lines follow those that are read
abbrev pub go_on : Stage → Lines → Read Audit
go_on stages.Nothing rest = audit_in rest
go_on (stages.Head head) rest = after_head head rest
go_on (stages.Points p) rest = and_then (points_in p.left rest) (λ lines rest. after_points p.head (p.lines ++ lines) rest)
go_on (stages.End audit) rest = and_then (blank_lines_in rest.number rest.lines) (λ _ rest. Ok (audit, rest))

-- whatever follows these lines, it follows the new stage
abbrev pub Leads : Stage → ℕ → List (List (List ℕ)) → Stage → ℕ → Type 0
Leads old number lines new next = (more : List (List (List ℕ))) → go_on old (numbered number (lines ++ more)) ≡ go_on new (numbered next more)

-- whatever follows these lines, this is the first that has not its form, unless it is want of memory
abbrev pub Refuses : Stage → ℕ → List (List (List ℕ)) → CertificateError → Type 0
Refuses old number lines e = (e ≡ Memory) ⊎ ((more : List (List (List ℕ))) → go_on old (numbered number (lines ++ more)) ≡ Err e)

-- these lines are read on
abbrev pub ReadsOn : Stage → ℕ → List (List (List ℕ)) → Result (Stage × ℕ) CertificateError → Type 0
ReadsOn old number lines (Ok (new, next)) = Leads old number lines new next
ReadsOn old number lines (Err e) = Refuses old number lines e

-- the next line is read, by its words
abbrev pub Takes : Stage → ℕ → List (List ℕ) → Result Stage CertificateError → Type 0
Takes old number words (Ok new) = Leads old number (words ∷ []) new (number + 1)
Takes old number words (Err e) = Refuses old number (words ∷ []) e

-- some lines at the front of a text are read, and the rest of the text follows
pub record TakesPlain (old : Stage) (number : ℕ) (text : List ℕ) (new : Stage) (next : ℕ) (rest : List ℕ) : Type 0 where
  pub same : (more : List (List (List ℕ))) → go_on old (numbered number (words_in text ++ more)) ≡ go_on new (numbered next (words_in rest ++ more))
  pub fewer : length rest ≤ length text
  pub counted : next + length rest ≤ number + length text
