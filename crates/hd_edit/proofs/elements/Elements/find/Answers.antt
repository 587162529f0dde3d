use Rattle.std.proofs.Common.{refl, sym, ◌∙◌}
use Rattle.hd_edit.proofs.NamedElements.{first_named-found}
use Rattle.hd_edit.proofs.elements.Elements.find.Goals as goal

pub returns-in-Some : goal.returns-in-Some
returns-in-Some c =
    rw (← c.self.view_is) (first_named-found (λ k. k.items) c.self.inside.by_name.entries c.args.name.now c.self.invariant ∙ rw (← c.as_slice.ensures) (sym c.in-Some.ensures.value))

pub returns-in-None : goal.returns-in-None
returns-in-None c =
    (rw (← c.self.view_is) (first_named-found (λ k. k.items) c.self.inside.by_name.entries c.args.name.now c.self.invariant ∙ rw (← c.as_slice.ensures) (sym c.in-None.ensures.value)), refl)
