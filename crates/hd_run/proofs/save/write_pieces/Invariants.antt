use Rattle.std.proofs.Common.{◌≡◌, length, IsTrue}
use Rattle.hd_base.proofs.Pieces.{AreWritten}
use Rattle.hd_run.proofs.save.write_pieces.Given as goal

abbrev pub invariant-pieces : goal.invariant-pieces
invariant-pieces g l = record {
  open_still : IsTrue (g.V.Sink.is_open l.saved);
  written : AreWritten (g.V.Sink.written l.fn.saved) (g.V.Sink.written l.saved) l.fn.pieces.left l.pieces.left;
  faults : g.V.Sink.faults l.saved ≡ g.V.Sink.faults l.fn.saved;
}

abbrev pub decreases-pieces : goal.decreases-pieces
decreases-pieces g l = length l.pieces.left
