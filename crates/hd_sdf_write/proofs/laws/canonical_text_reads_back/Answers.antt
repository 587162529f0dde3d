use Rattle.hd_sdf_write.proofs.ReadsBack.{file_in-canonical}
use Rattle.hd_sdf_write.proofs.laws.canonical_text_reads_back.Goals as goal

pub returns : goal.returns
returns c = file_in-canonical
