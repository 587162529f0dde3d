use Rattle.std.proofs.Common.{◌≡◌, ◌++◌, ◌∷◌, [], ◌∙◌, List, ap, sym, subst, arith}
use Rattle.std.proofs.lemmas.List.{nil_from_length}
use Rattle.hd_edit.specs.declared.change.Change.{Change}
use Rattle.hd_edit.specs.declared.change.Was.TheVariants as was
use Rattle.hd_edit.specs.declared.notes.HeightNote.{HeightNote}
use Rattle.hd_edit.specs.declared.height_bytes.OverLeast.{OverLeast}
use Rattle.hd_edit.specs.Notes.{BeginsUnfit, changes_after, last_after}
use Rattle.hd_edit.proofs.HeightNotes.{last_after-push, changes_after-popped, BeginsUnfit-none}
use Rattle.hd_edit.proofs.notes.Notes.pop.Goals as goal

pub overflow_sub-self : goal.overflow_sub-self
overflow_sub-self c =
    let last = c.self.invariant.0 ∙ ap (last_after c.self.inside.first) c.in_ok-note.ensures.items ∙ last_after-push c.self.inside.first c.pop-2.new.self.items c.in_ok-note.note in
    omega (arith, last, c.from.ensures)

pub invariant_of-self-2 : goal.invariant_of-self-2
invariant_of-self-2 c =
    let inside = c.self.inside in
    let last = c.self.invariant.0 ∙ ap (last_after inside.first) c.in_ok-note.ensures.items ∙ last_after-push inside.first c.pop-2.new.self.items c.in_ok-note.note in
    let left : List Change = c.pop.new.self.items in
    let none = c.in_default.ensures.cases in
    let empty : left ≡ [] = nil_from_length left (omega (arith, none.1, c.pop.new.self.ok.0)) in
    (omega (arith, last, c.from.ensures), subst (BeginsUnfit _) (sym empty) (BeginsUnfit-none _))

pub returns : goal.returns
returns c =
    let none = c.in_default.ensures.cases in
    let new : List HeightNote = c.pop-2.new.self.items in
    let left : List Change = c.pop.new.self.items in
    sym c.self.view_is
    ∙ changes_after-popped c.self.inside.first c.self.inside.last c.self.inside.heights.items new c.self.inside.others.items left c.in_ok-note.note c.self.invariant.0 c.in_ok-note.ensures.items
    (nil_from_length c.self.inside.others.items (omega (arith, none.0, c.self.inside.others.ok.0))) (nil_from_length left (omega (arith, none.1, c.pop.new.self.ok.0)))
    ∙ ap (λ (over : OverLeast). (changes_after c.self.inside.first new ++ left) ++ record { index = c.self.inside.last; was = was.Height over } ∷ []) (sym c.of_low.ensures)
