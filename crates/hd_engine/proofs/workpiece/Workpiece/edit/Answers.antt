use Rattle.std.proofs.Common.{◌≡◌, List, ap, ap₂}
use Rattle.hd_map.specs.Map.{Map}
use Rattle.hd_morph.specs.Element.{ElementTable}
use Rattle.hd_session.specs.Reply.{reply_of}
use Rattle.hd_session.specs.State.{State}
use Rattle.hd_engine.specs.Texts.{texts_view}
use Rattle.hd_engine.specs.Workpiece.{state_of}
use Rattle.hd_engine.proofs.EditAnswers.{edit_accepted, edit_refused, if_both}
use Rattle.hd_engine.proofs.workpiece.Workpiece.edit.Goals as goal

pub returns-in-Ok-clause-ok : goal.returns-in-Ok-clause-ok
returns-in-Ok-clause-ok g c =
    let w = c.args.self.now in
    let m : Map = g.G.Heights.map c.apply.new.self.grid in
    let after : State = record { read = texts_view w.texts; map = m; earlier = c.apply.new.self.earlier; elements = c.apply.new.self.elements } in
    let make : List Map → List ElementTable → State = λ maps elements. record { read = texts_view w.texts; map = m; earlier = maps; elements = elements } in
    edit_accepted (state_of g.G.Heights.map w) c.args.number c.args.edit.now m (reply_of c.in_ok-ok.ok) after
    c.in-Ok.ensures.edit c.in_ok-ok.ensures (ap₂ make c.in-Ok.ensures.earlier c.in-Ok.ensures.elements)

pub returns-in-Err-clause-ok : goal.returns-in-Err-clause-ok
returns-in-Err-clause-ok g c =
    let w = c.args.self.now in
    let after : State = state_of g.G.Heights.map (record { alloc = w.alloc; texts = w.texts; board = c.apply.new.self }) in
    let stays : after ≡ state_of g.G.Heights.map w = ap (λ b. state_of g.G.Heights.map (record { alloc = w.alloc; texts = w.texts; board = b })) c.in-Err.ensures.refused in
    if_both c.refuse_edit.result c.refuse_edit.ensures.known c.refuse_edit.ensures.reply (λ a unlike reply.
    edit_refused (state_of g.G.Heights.map w) c.args.number c.args.edit.now c.in-Err.error (g.G.Heights.map c.apply.new.self.grid) (reply_of a) after unlike c.in-Err.ensures.edit reply stays)
