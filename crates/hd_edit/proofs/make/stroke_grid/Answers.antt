use Rattle.std.proofs.Common.{◌∙◌, ap, sym, Ok}
use Rattle.hd_edit.specs.declared.edit.EditError.TheVariants.{HeightRange}
use Rattle.hd_edit.proofs.Outcomes.{outcome-refused, outcome-made}
use Rattle.hd_edit.proofs.make.stroke_grid.Goals as goal

pub returns-in-Err-clause-edit : goal.returns-in-Err-clause-edit
returns-in-Err-clause-edit g c =
    let m = g.G.Heights.map c.args.grid.now in
    sym (outcome-refused m (g.met.G.Heights.whole c.args.grid.now) c.args.from c.args.to c.args.stroke (rw c.size.ensures at c.in_ok-check_rectangle.ensures.1)
    (HeightRange c.in-Err.at) c.in-Err.ensures)

pub returns-clause-edit : goal.returns-clause-edit
returns-clause-edit g c =
    let m = g.G.Heights.map c.args.grid.now in
    sym (outcome-made m (g.met.G.Heights.whole c.args.grid.now) c.args.from c.args.to c.args.stroke (rw c.size.ensures at c.in_ok-check_rectangle.ensures.1)
    c.in-Ok.ensures.1 ∙ ap Ok (sym c.in_ok-changes.ensures.map))
