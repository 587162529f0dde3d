use Rattle.hd_prune.proofs.Nested.{keeps-undercut}
use Rattle.hd_prune.proofs.laws.pruning_keeps_what_is_not_undercut.Goals as goal

pub returns : goal.returns
returns c = keeps-undercut
