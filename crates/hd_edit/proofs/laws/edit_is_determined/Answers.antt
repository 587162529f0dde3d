use Rattle.hd_edit.proofs.Determined.{IsEdited-unique}
use Rattle.hd_edit.proofs.laws.edit_is_determined.Goals as goal

pub returns : goal.returns
returns c = λ elements m e x y whole first second.
    let law = c.filter_is_determined.ensures in
    IsEdited-unique m
    (λ filter element a b one other. law.cells filter m element a b whole one other)
    (λ filter element p q one other. law.position filter m element p q whole one other)
    (λ filter element cells p one other. law.either filter m element cells p whole one other)
    elements e x y first second
