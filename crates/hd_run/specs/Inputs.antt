-- What the reading of the two inputs tells.
use Rattle.std.specs.Prelude.{◌≡◌, ◌≢◌, ◌<◌, ◌≤◌, ℕ, List, length, Some, Result, Ok, Err, ⊤}
use Rattle.hd_base.specs.Causes.{Rose}
use Rattle.hd_sdf_read.specs.declared.file.SdfFile.{SdfFile}
use Rattle.hd_sdf_read.specs.FileOf.{file_of}
use Rattle.hd_run.specs.declared.stop.Refusal.TheVariants.{SecondTooLong, SurfaceTooLong}
use Rattle.hd_run.specs.declared.stop.Stop.{Stop}
use Rattle.hd_run.specs.declared.stop.Stop.TheVariants.{Memory, ReadFault, WriteFault, Refused}
use Rattle.hd_base.specs.Told.{Told}
use Rattle.hd_sdf_read.specs.Reader.{StandsFor}
use Rattle.hd_sdf_read.specs.declared.reader.SdfReader.{SdfReader}
use Rattle.hd_run.specs.declared.certificate_reader.CertificateReader.{CertificateReader}
use Rattle.hd_run.specs.CertificateReader as certificate
use Rattle.hd_run.specs.Limits.{certificate_limit, script_limit, surface_limit}
use Rattle.hd_run.specs.Outcome.{surface_of}

-- what the answer tells of the surface's bytes
abbrev pub IsSurfaceRead : List ℕ → Result SdfFile Stop → Type 0
IsSurfaceRead bytes (Ok file) = surface_of bytes ≡ Ok (file_of file)
IsSurfaceRead bytes (Err (Refused refusal)) = surface_of bytes ≡ Err refusal
IsSurfaceRead bytes (Err Memory) = ⊤
IsSurfaceRead bytes (Err ReadFault) = ⊤
IsSurfaceRead bytes (Err WriteFault) = ⊥

-- what it tells of a script's bytes: they are read, or they are too many
abbrev pub IsScriptRead : List ℕ → Result (List ℕ) Stop → Type 0
IsScriptRead bytes (Ok read) = (length bytes ≤ script_limit) × (read ≡ bytes)
IsScriptRead bytes (Err (Refused refusal)) = (script_limit < length bytes) × (refusal ≡ SecondTooLong)
IsScriptRead bytes (Err Memory) = ⊤
IsScriptRead bytes (Err ReadFault) = ⊤
IsScriptRead bytes (Err WriteFault) = ⊥

-- what it tells of a certificate's bytes: a reader stands for them, or they are too many
abbrev pub IsCertificateRead : List ℕ → Result CertificateReader Stop → Type 0
IsCertificateRead bytes (Ok reader) = (length bytes ≤ certificate_limit) × certificate.StandsFor reader bytes
IsCertificateRead bytes (Err (Refused refusal)) = (certificate_limit < length bytes) × (refusal ≡ SecondTooLong)
IsCertificateRead bytes (Err Memory) = ⊤
IsCertificateRead bytes (Err ReadFault) = ⊤
IsCertificateRead bytes (Err WriteFault) = ⊥

-- with a read fault exactly one is counted, and each other answer leaves the count; no write fault comes
pub record HasReadStop {T : Type 0} (before now : ℕ) (result : Result T Stop) : Type 0 where
  pub fault : result ≡ Err ReadFault → Rose before now
  pub no_fault : result ≢ Err ReadFault → now ≡ before
  pub no_write : result ≢ Err WriteFault

-- what feeding a reader with all that is left tells of these bytes: it stands for them, or they are too many
abbrev pub IsFed : Told → SdfReader → Result (Unit {0}) Stop → Type 0
IsFed before reader (Ok done) = (bytes : List ℕ) → before ≡ Some bytes → (length bytes ≤ surface_limit) × StandsFor reader bytes
IsFed before reader (Err (Refused refusal)) = (bytes : List ℕ) → before ≡ Some bytes → (surface_limit < length bytes) × (refusal ≡ SurfaceTooLong)
IsFed before reader (Err Memory) = ⊤
IsFed before reader (Err ReadFault) = ⊤
IsFed before reader (Err WriteFault) = ⊥
