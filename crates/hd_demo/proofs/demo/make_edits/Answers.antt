use Rattle.std.proofs.Common.{◌∙◌, arith}
use Rattle.hd_demo.proofs.Drawings.{draws_before-more, edit_by-drawn}
use Rattle.hd_demo.proofs.DemoTexts.{AreEdits-more}
use Rattle.hd_demo.proofs.demo.make_edits.Goals as goal

pub edits-preserved : goal.edits-preserved
edits-preserved g c =
    let demo = c.args.demo in
    let n = c.edits.counter in
    let last = c.edits.draws.last in
    let inv = c.edits.invariant in
    record {
      edits = AreEdits-more demo (g.E.SurfaceSession.state c.args.session.now) (g.E.SurfaceSession.state c.edits.session)
          (g.E.SurfaceSession.state c.answer_line.new.self) n c.as_slice.result.now _ inv.edits
          (c.as_slice.ensures ∙ c.in_ok-line.ensures.edit ∙ edit_by-drawn demo.size demo.number n last inv.last) c.in_ok-answer_line.ensures.ok;
      last = draws_before-more demo.size demo.number n last c.drawn_edit.new.draws.last inv.last c.drawn_edit.ensures.last;
      asked = omega (arith, c.answer_line.ensures.asked, inv.asked);
      few = omega (arith, c.edits-test.true);
    }
