use Rattle.hd_prune.proofs.Nested.{exists}
use Rattle.hd_prune.proofs.laws.pruning_exists.Goals as goal

pub returns : goal.returns
returns c = exists
