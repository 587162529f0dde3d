use Rattle.std.proofs.Common.{◌≡◌, ◌≤◌, ◌+◌, ◌-◌, IsTrue}
use Rattle.hd_run.specs.CertificateReader.{StandsFor, fed_of}
use Rattle.hd_run.specs.Limits.{certificate_limit}
use Rattle.hd_run.proofs.FedPieces.{HasFed}
use Rattle.hd_run.proofs.inputs.read_open_certificate.Given as goal

abbrev pub invariant-pieces : goal.invariant-pieces
invariant-pieces g l = record {
  open_still : IsTrue (g.R.Source.is_open l.source);
  within : l.count ≤ certificate_limit;
  fed : HasFed StandsFor (g.R.Source.left l.fn.source) (g.R.Source.left l.source) l.reader l.count;
  counted : fed_of l.reader ≤ l.count;
  faults : g.R.Source.faults l.source ≡ g.R.Source.faults l.fn.source;
}

abbrev pub decreases-pieces : goal.decreases-pieces
decreases-pieces g l = certificate_limit + 1 - l.count
