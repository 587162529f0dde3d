-- What a reader stands for.
use Rattle.std.proofs.Common.{◌≡◌, ℕ, List, [], sym, ap, ◌∙◌, append-nil}
use Rattle.hd_audit.specs.declared.reader.AuditReader.{AuditReader}
use Rattle.hd_audit.specs.declared.reader.AuditState.{AuditState}
use Rattle.hd_audit.specs.Pieces.{continued}
use Rattle.hd_audit.specs.Reader.{StandsFor}
use Rattle.hd_audit.specs.Reading.{audit_of}

-- the certificate of all bytes is that of its state
pub audit_of-ended : (reader : AuditReader) (state : AuditState) (bytes : List ℕ) → reader.state ≡ state → StandsFor reader bytes → audit_of bytes ≡ continued state []
audit_of-ended reader state bytes is stands = ap audit_of (sym (append-nil bytes)) ∙ stands [] ∙ ap (λ (s : AuditState). continued s []) is
