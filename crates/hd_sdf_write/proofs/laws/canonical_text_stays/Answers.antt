use Rattle.hd_sdf_write.proofs.ReadsBack.{canonical-stays}
use Rattle.hd_sdf_write.proofs.laws.canonical_text_stays.Goals as goal

pub returns : goal.returns
returns c = canonical-stays
