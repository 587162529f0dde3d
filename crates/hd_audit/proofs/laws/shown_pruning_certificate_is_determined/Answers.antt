use Rattle.hd_audit.proofs.ShownRight.{IsShown-unique}
use Rattle.hd_audit.proofs.laws.shown_pruning_certificate_is_determined.Goals as goal

pub returns : goal.returns
returns c = IsShown-unique
