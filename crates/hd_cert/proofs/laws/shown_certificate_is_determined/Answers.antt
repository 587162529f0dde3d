use Rattle.hd_cert.proofs.Determined.{IsShownCertificate-unique}
use Rattle.hd_cert.proofs.laws.shown_certificate_is_determined.Goals as goal

pub returns : goal.returns
returns c = IsShownCertificate-unique
