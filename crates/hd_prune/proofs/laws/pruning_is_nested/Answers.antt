use Rattle.hd_prune.proofs.Nested.{nested}
use Rattle.hd_prune.proofs.laws.pruning_is_nested.Goals as goal

pub returns : goal.returns
returns c = nested
