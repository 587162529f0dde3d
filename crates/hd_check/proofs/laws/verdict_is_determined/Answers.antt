use Rattle.hd_check.proofs.Determined.{IsVerdict-unique}
use Rattle.hd_check.proofs.laws.verdict_is_determined.Goals as goal

pub returns : goal.returns
returns c = IsVerdict-unique
