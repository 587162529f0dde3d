use Rattle.std.proofs.Common.{◌∙◌, ap}
use Rattle.hd_session.specs.State.{first_state}
use Rattle.hd_demo.proofs.DemoTexts.{IsTheDemoText-told}
use Rattle.hd_demo.proofs.demo.demo_text.Goals as goal

pub returns : goal.returns
returns g c =
    let demo = c.args.demo in
    let state = c.in_ok-session.ensures.state ∙ ap first_state c.in_ok-file.ensures.file in
    IsTheDemoText-told demo (g.E.SurfaceSession.state c.in_ok-session.session) c.told_text-text.result state (λ a b. c.demo_text_is_determined.ensures demo a b c.requires) c.told_text-text.ensures
