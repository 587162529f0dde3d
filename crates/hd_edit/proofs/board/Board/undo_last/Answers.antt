use Rattle.std.proofs.Common.{◌∙◌, sym, ap, List, arith}
use Rattle.circular_buffer.specs.Buffer.{Buffer}
use Rattle.hd_edit.specs.declared.entry.Entry.{Entry}
use Rattle.hd_edit.specs.Board.{BoardState}
use Rattle.hd_edit.specs.Entry.{IsEntry}
use Rattle.hd_edit.specs.Log.{earlier_maps}
use Rattle.hd_edit.proofs.Logs.{earlier_maps-undone, IsLog-undone, last_item-holds, last_item-none}
use Rattle.hd_edit.proofs.board.Board.undo_last.Goals as goal

pub put_back-requires-clause-entry : goal.put_back-requires-clause-entry
put_back-requires-clause-entry g c =
    let m = g.G.Heights.map c.self.inside.grid in
    last_item-holds (IsEntry m) c.self.inside.log.items c.in-Some.entry c.in-Some.ensures.value c.self.invariant.each

pub invariant_of-self : goal.invariant_of-self
invariant_of-self g c =
    IsLog-undone c.self.inside.log c.pop_back.new.self c.in-Some.entry (g.G.Heights.map c.self.inside.grid)
    (g.G.Heights.map c.put_back.new.grid) c.self.invariant c.in-Some.ensures.items c.put_back.ensures.map

pub returns-in-Some-clause-earlier : goal.returns-in-Some-clause-earlier
returns-in-Some-clause-earlier g c =
    rw (← c.self.view_is) (earlier_maps-undone c.self.inside.log.items c.pop_back.new.self.items c.in-Some.entry (g.G.Heights.map c.self.inside.grid) (g.G.Heights.map c.put_back.new.grid)
    c.in-Some.ensures.value (ap (λ (b : Buffer Entry). b.items) c.in-Some.ensures.items) c.put_back.ensures.map)

pub returns-in-Some-clause-count : goal.returns-in-Some-clause-count
returns-in-Some-clause-count g c =
    let size = (g.met.G.Heights.whole c.self.inside.grid).size.cells in
    rw (← c.self.view_is) (c.put_back.ensures.count.0, omega (arith, c.put_back.ensures.count.1, size))

pub returns-in_default-clause-earlier : goal.returns-in_default-clause-earlier
returns-in_default-clause-earlier g c =
    absurd (c.requires.kept (ap (λ (b : BoardState g.row.G.Denot). b.earlier) (sym c.self.view_is)
    ∙ ap (λ (es : List Entry). earlier_maps es (g.G.Heights.map c.self.inside.grid)) (last_item-none c.self.inside.log.items c.in_default.ensures.value)))
