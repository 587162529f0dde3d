use Rattle.std.proofs.Common.{◌≡◌, refl, ◌∙◌}
use Rattle.hd_edit.proofs.NamedElements.{IsNamed-with, elements_with-tables}
use Rattle.hd_edit.proofs.elements.Elements.define.Goals as goal

pub invariant_of-self-2 : goal.invariant_of-self-2
invariant_of-self-2 c =
    let key = c.extend_from_slice.new.self in
    let named : key.items ≡ c.args.element.name = c.in_ok-extend_from_slice.ensures.items ∙ rw (c.new-name.ensures.items, c.name.ensures) refl in
    rw c.in_ok-insert.ensures.entries (IsNamed-with (λ k. k.items) key c.args.element named c.self.inside.by_name.entries c.self.invariant)

pub returns-clause-ok : goal.returns-clause-ok
returns-clause-ok c =
    let key = c.extend_from_slice.new.self in
    let named : key.items ≡ c.args.element.name = c.in_ok-extend_from_slice.ensures.items ∙ rw (c.new-name.ensures.items, c.name.ensures) refl in
    rw (← c.self.view_is, c.in_ok-insert.ensures.entries) (elements_with-tables (λ k. k.items) key c.args.element named c.self.inside.by_name.entries c.self.invariant)
