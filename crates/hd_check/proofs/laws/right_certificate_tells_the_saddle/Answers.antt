use Rattle.hd_check.proofs.IsRight.{IsRight-saddle}
use Rattle.hd_check.proofs.laws.right_certificate_tells_the_saddle.Goals as goal

pub returns : goal.returns
returns c = IsRight-saddle
