use Rattle.hd_audit.proofs.ShownRight.{IsRight-shown}
use Rattle.hd_audit.proofs.laws.shown_pruning_certificate_is_right.Goals as goal

pub returns : goal.returns
returns c = IsRight-shown
