-- What a certificate can still become of which some pieces have come.
use Rattle.std.specs.Prelude.{◌≡◌, ◌+◌, ◌⊎◌, ◌++◌, ℕ, List, [], length, Result, Ok, Err}
use Rattle.hd_check.specs.declared.types.CertificateError.{CertificateError}
use Rattle.hd_check.specs.declared.types.CertificateError.TheVariants.{Memory}
use Rattle.hd_check.specs.Reading.{value_of}
use Rattle.hd_num.specs.Lines.{lines_of}
use Rattle.hd_audit.specs.declared.part.PartAudit.{PartAudit}
use Rattle.hd_audit.specs.declared.reader.AuditState.{AuditState}
use Rattle.hd_audit.specs.declared.reader.AuditState.TheVariants.{Reading, Refused}
use Rattle.hd_audit.specs.declared.types.Audit.{Audit}
use Rattle.hd_audit.specs.Stages.{go_on, numbered, words_in}

-- whatever follows the text, its lines come first
abbrev pub EndsLine : List ℕ → Type 0
EndsLine text = (more : List ℕ) → lines_of (text ++ more) ≡ lines_of text ++ lines_of more

-- the text begins with this, which ends a line whatever comes before it, and the rest follows
pub record IsCutAfterLine (text first rest : List ℕ) : Type 0 where
  pub whole : text ≡ first ++ rest
  pub ends : (front : List ℕ) → EndsLine (front ++ first)

-- the certificate, or the first line that has not its form, where these bytes follow
abbrev pub part_on : PartAudit → List ℕ → Result Audit CertificateError
part_on part more = value_of (go_on part.stage (numbered part.number (words_in (part.rest ++ more))))

-- the same where none follow
abbrev pub part_ends : PartAudit → Result Audit CertificateError
part_ends part = part_on part []

-- the number of the line that is not whole yet, and the bytes that have come of it
abbrev pub part_size : PartAudit → ℕ
part_size part = part.number + length part.rest

-- a piece is read on: what can still become stays, or this is the offence whatever follows
abbrev pub FeedsPart : PartAudit → List ℕ → Result PartAudit CertificateError → Type 0
FeedsPart old piece (Ok new) = (more : List ℕ) → part_on old (piece ++ more) ≡ part_on new more
FeedsPart old piece (Err e) = (e ≡ Memory) ⊎ ((more : List ℕ) → part_on old (piece ++ more) ≡ Err e)

-- the same, or the offence that has come
abbrev pub continued : AuditState → List ℕ → Result Audit CertificateError
continued (Reading part) more = part_on part more
continued (Refused e) more = Err e

abbrev pub size_of : AuditState → ℕ
size_of (Reading part) = part_size part
size_of (Refused e) = 0

-- a piece is read on, unless memory is refused
abbrev pub Feeds : AuditState → List ℕ → AuditState → Type 0
Feeds old piece new = (new ≡ Refused Memory) ⊎ ((more : List ℕ) → continued old (piece ++ more) ≡ continued new more)
