-- What a reader of a certificate stands for.
use Rattle.std.specs.Prelude.{◌≡◌, ◌++◌, ℕ, Bool, true, false, List, length}
use Rattle.hd_audit.specs.Reader as audit
use Rattle.hd_num.specs.Lines.{lines_of}
use Rattle.hd_run.specs.declared.certificate_reader.CertificateReader.{CertificateReader}
use Rattle.hd_run.specs.declared.certificate_reader.CertificateReader.TheVariants.{FirstLine, Saddle, Pruning}
use Rattle.hd_run.specs.Outcome.{begins_pruning}

-- whatever follows the bytes, this says whether they begin a pruning certificate
abbrev pub IsOfKind : Bool → List ℕ → Type 0
IsOfKind kind bytes = (more : List ℕ) → begins_pruning (lines_of (bytes ++ more)) ≡ kind

-- a reader stands for these bytes: it keeps them, or what it needs to go on behind them
abbrev pub StandsFor : CertificateReader → List ℕ → Type 0
StandsFor (FirstLine text) bytes = text ≡ bytes
StandsFor (Saddle text) bytes = (text ≡ bytes) × IsOfKind false bytes
StandsFor (Pruning reader) bytes = audit.StandsFor reader bytes × IsOfKind true bytes

-- how many bytes were fed
abbrev pub fed_of : CertificateReader → ℕ
fed_of (FirstLine text) = length text
fed_of (Saddle text) = length text
fed_of (Pruning reader) = audit.fed_of reader
