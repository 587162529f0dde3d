use Rattle.hd_demo.proofs.DemoTexts.{AddsTold-lines}
use Rattle.hd_demo.proofs.demo.push_told.Goals as goal

pub returns : goal.returns
returns g c =
    AddsTold-lines c.args.demo (g.E.SurfaceSession.state c.args.session.now) (g.E.SurfaceSession.state c.push_summary.new.session)
    (g.E.SurfaceSession.state c.make_edits.new.session) (g.E.SurfaceSession.state c.push_summary-2.new.session)
    c.args.out.now c.push_summary.new.out c.push_edits.new.out c.push_summary-2.new.out
    c.in_ok-push_summary.ensures.summary c.in_ok-make_edits.ensures.edits c.in_ok-push_edits.ensures c.in_ok-push_summary-2.ensures.summary
