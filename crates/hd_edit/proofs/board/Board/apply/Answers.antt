use Rattle.std.proofs.Common.{ap}
use Rattle.circular_buffer.specs.Buffer.{Buffer}
use Rattle.hd_edit.specs.declared.entry.Entry.{Entry}
use Rattle.hd_edit.proofs.Logs.{earlier_maps-kept, IsLog-kept}
use Rattle.hd_edit.proofs.board.Board.apply.Goals as goal

pub returns-clause-earlier : goal.returns-clause-earlier
returns-clause-earlier g c =
    rw (← c.self.view_is) (earlier_maps-kept c.self.inside.log.items c.push_back.new.self.items c.in_ok-entry.entry c.self.inside.log.capacity (g.G.Heights.map c.self.inside.grid)
    (g.G.Heights.map c.make.new.grid)
    (ap (λ (b : Buffer Entry). b.items) c.push_back.ensures.items) c.self.invariant.places c.in_ok-entry.ensures.before)

pub invariant_of-self : goal.invariant_of-self
invariant_of-self g c = rw c.in_err-entry.ensures.refused c.self.invariant

pub invariant_of-self-2 : goal.invariant_of-self-2
invariant_of-self-2 g c =
    IsLog-kept c.self.inside.log c.push_back.new.self c.in_ok-entry.entry (g.G.Heights.map c.self.inside.grid) (g.G.Heights.map c.make.new.grid) c.self.invariant
    c.push_back.ensures.items c.in_ok-entry.ensures.entry c.in_ok-entry.ensures.size c.in_ok-entry.ensures.data_type
