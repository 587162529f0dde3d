-- What a reader of pieces stands for.
use Rattle.std.specs.Prelude.{◌≡◌, ◌++◌, ℕ, List}
use Rattle.hd_check.specs.declared.types.CertificateError.{CertificateError}
use Rattle.hd_check.specs.declared.types.CertificateError.TheVariants.{Memory}
use Rattle.hd_audit.specs.declared.reader.AuditReader.{AuditReader}
use Rattle.hd_audit.specs.declared.reader.AuditState.TheVariants.{Refused}
use Rattle.hd_audit.specs.Pieces.{continued}
use Rattle.hd_audit.specs.Reading.{audit_of}

-- a reader stands for these bytes: with whatever follows them, they are the certificate, or have the first line without
-- its form, that is read on from what the reader keeps
abbrev pub StandsFor : AuditReader → List ℕ → Type 0
StandsFor reader bytes = (more : List ℕ) → audit_of (bytes ++ more) ≡ continued reader.state more

-- how many bytes were fed
abbrev pub fed_of : AuditReader → ℕ
fed_of reader = reader.fed

-- a reader was refused with this: an offence, or want of memory
abbrev pub IsRefusedWith : AuditReader → CertificateError → Type 0
IsRefusedWith reader error = reader.state ≡ Refused error

-- a reader was refused its memory
abbrev pub IsSpent : AuditReader → Type 0
IsSpent reader = IsRefusedWith reader Memory

-- a reader that was refused stays so, with the same
abbrev pub StaysRefused : AuditReader → AuditReader → Type 0
StaysRefused old new = (error : CertificateError) → IsRefusedWith old error → IsRefusedWith new error
