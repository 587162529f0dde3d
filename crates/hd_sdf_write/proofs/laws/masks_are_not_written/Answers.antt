use Rattle.hd_sdf_write.proofs.ReadsBack.{canonical-unmasked}
use Rattle.hd_sdf_write.proofs.laws.masks_are_not_written.Goals as goal

pub returns : goal.returns
returns c = canonical-unmasked
