use Rattle.hd_check.proofs.ReadsBack.{certificate_in-certificate_text}
use Rattle.hd_check.proofs.laws.written_certificate_reads_back.Goals as goal

pub returns : goal.returns
returns c = certificate_in-certificate_text
