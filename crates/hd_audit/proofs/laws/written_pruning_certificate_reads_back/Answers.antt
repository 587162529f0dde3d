use Rattle.hd_audit.proofs.ReadsBack.{audit_of-audit_text}
use Rattle.hd_audit.proofs.laws.written_pruning_certificate_reads_back.Goals as goal

pub returns : goal.returns
returns c = audit_of-audit_text
