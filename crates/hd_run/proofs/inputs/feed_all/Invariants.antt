use Rattle.std.proofs.Common.{◌≡◌, ◌≤◌, ◌+◌, ◌-◌, IsTrue}
use Rattle.hd_sdf_read.specs.Reader.{StandsFor, fed_of}
use Rattle.hd_run.specs.Limits.{surface_limit}
use Rattle.hd_run.proofs.FedPieces.{HasFed}
use Rattle.hd_run.proofs.inputs.feed_all.Given as goal

abbrev pub invariant-pieces : goal.invariant-pieces
invariant-pieces g l = record {
  open_still : IsTrue (g.S.Source.is_open l.source);
  within : l.count ≤ surface_limit;
  fed : HasFed StandsFor (g.S.Source.left l.fn.source) (g.S.Source.left l.source) l.reader l.count;
  counted : fed_of l.reader ≤ l.count;
  faults : g.S.Source.faults l.source ≡ g.S.Source.faults l.fn.source;
}

abbrev pub decreases-pieces : goal.decreases-pieces
decreases-pieces g l = surface_limit + 1 - l.count
