use Rattle.hd_map.proofs.Nexts.{root-unique}
use Rattle.hd_steep.proofs.laws.root_is_determined.Goals as goal

pub returns : goal.returns
returns c = root-unique
