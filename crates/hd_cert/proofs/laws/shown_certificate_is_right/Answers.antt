use Rattle.hd_cert.proofs.ShownIsRight.{IsRight-shown}
use Rattle.hd_cert.proofs.laws.shown_certificate_is_right.Goals as goal

pub returns : goal.returns
returns c = IsRight-shown
