use Rattle.std.proofs.Common.{◌≡◌, ◌≤◌, ◌+◌}
use Rattle.hd_demo.specs.DemoText.{AreEdits}
use Rattle.hd_demo.specs.Generator.{draws_before, drawn}
use Rattle.hd_demo.proofs.demo.make_edits.Given as goal

-- the edits so far
abbrev pub invariant-edits : goal.invariant-edits
invariant-edits g l = record {
  edits : AreEdits l.demo (g.E.SurfaceSession.state l.fn.session) l.counter (g.E.SurfaceSession.state l.session);
  last : l.draws.last ≡ drawn l.demo.number (draws_before l.demo.size l.counter);
  asked : g.E.SurfaceSession.asked l.session ≡ g.E.SurfaceSession.asked l.fn.session + l.counter;
  few : l.counter ≤ l.demo.edits;
}
