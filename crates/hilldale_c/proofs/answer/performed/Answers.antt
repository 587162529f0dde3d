use Rattle.std.proofs.Common.{◌∙◌, ap, sym, Some}
use Rattle.hilldale_c.specs.declared.bytes_sink.BytesSink.{BytesSink}
use Rattle.hilldale_c.proofs.Outcomes.{is_outcome}
use Rattle.hilldale_c.proofs.answer.performed.Goals as goal

pub returns : goal.returns
returns c = is_outcome _ _ _ _ _ c.new-saved.ensures (λ stays. ap (λ (s : BytesSink). s.bytes.items) stays)
    _ c.args.surface.now c.args.second.now _ c.top-status.result _ _ c.new-out.ensures
    (sym c.is_stopped.ensures ∙ c.if-is_stopped.false)
    (c.top-status.ensures.outcome c.args.surface.now c.args.second.now
    (λ request is. ((λ name named. ap Some c.new-surface.ensures), (λ name named. ap Some c.new-second.ensures))))
