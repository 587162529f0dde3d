use Rattle.hd_map.proofs.Prunings.{pruning-unique}
use Rattle.hd_map.proofs.pruning_law.pruning_is_determined.Goals as goal

pub returns : goal.returns
returns c = pruning-unique
