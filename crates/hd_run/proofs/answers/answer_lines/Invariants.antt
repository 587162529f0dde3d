use Rattle.std.proofs.Common.{◌≡◌, ◌≤◌, ◌+◌, ◌-◌, length, drop, IsTrue}
use Rattle.hd_num.specs.Lines.{lines_of}
use Rattle.hd_run.proofs.Answered.{AreAnswered}
use Rattle.hd_run.proofs.answers.answer_lines.Given as goal

abbrev pub invariant-lines : goal.invariant-lines
invariant-lines g l = record {
  still_open : IsTrue (g.W.Sink.is_open l.out);
  within : l.from ≤ length l.script;
  numbered : l.number ≡ g.E.SurfaceSession.asked l.session + 1;
  few : l.number ≤ l.from + 1;
  faults : g.W.Sink.faults l.out ≡ g.W.Sink.faults l.fn.out;
  answered : AreAnswered (g.E.SurfaceSession.state l.fn.session) (lines_of l.script) (g.E.SurfaceSession.state l.session) l.number (lines_of (drop l.from l.script)) l.accepted
      (g.W.Sink.written l.fn.out) (g.W.Sink.written l.out);
}

abbrev pub decreases-lines : goal.decreases-lines
decreases-lines g l = length l.script - l.from
