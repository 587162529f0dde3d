use Rattle.hd_audit.proofs.Determined.{IsVerdict-unique}
use Rattle.hd_audit.proofs.laws.pruning_verdict_is_determined.Goals as goal

pub returns : goal.returns
returns c = IsVerdict-unique
