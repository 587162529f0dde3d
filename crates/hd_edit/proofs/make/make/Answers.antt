use Rattle.hd_edit.proofs.Outcomes.{IsEdited-by_stroke, IsRefusalBy-carried}
use Rattle.hd_edit.specs.Stroke.{IsStroked}
use Rattle.hd_edit.specs.Board.{IsEdited}
use Rattle.hd_edit.proofs.make.make.Goals as goal

pub returns-in-Some-clause-edit : goal.returns-in-Some-clause-edit
returns-in-Some-clause-edit g c =
    let m = g.G.Heights.map c.args.grid.now in
    IsRefusalBy-carried (IsStroked m c.in-Some.from c.in-Some.to c.in-Some.stroke) (IsEdited c.args.elements.now m c.args.edit.now)
    (IsEdited-by_stroke m (g.met.G.Heights.whole c.args.grid.now) c.args.elements.now c.args.edit.now c.in-Some.from c.in-Some.to c.in-Some.stroke c.in-Some.ensures)
    c.stroke_grid.result _ c.stroke_grid.ensures.edit
