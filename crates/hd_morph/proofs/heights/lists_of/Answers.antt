use Rattle.hd_morph.specs.Listed.{AreHeightsOf}
use Rattle.hd_morph.specs.Raised.{ArePlainlyFiltered}
use Rattle.hd_morph.proofs.Listed.{AreFilteredFrom-plainly}
use Rattle.hd_morph.proofs.heights.lists_of.Goals as goal

pub filtered_flatly-requires-clause-heights : goal.filtered_flatly-requires-clause-heights
filtered_flatly-requires-clause-heights g c =
    let m = g.G.Heights.map c.args.grid.now in
    let are : AreHeightsOf g.L.Lane.code m c.in-Some.before.items = rw c.in-Some.is at c.in_ok-before.ensures in
    rw (c.deref.ensures.value, c.size-size.ensures) are.plain

pub filtered-requires-clause-heights : goal.filtered-requires-clause-heights
filtered-requires-clause-heights g c =
    let m = g.G.Heights.map c.args.grid.now in
    let are : AreHeightsOf g.L.Lane.code m c.in-Some.before.items = rw c.in-Some.is at c.in_ok-before.ensures in
    rw c.size-size.ensures are.plain

pub returns-in-Some-flat_number : goal.returns-in-Some-flat_number
returns-in-Some-flat_number g c =
    let m = g.G.Heights.map c.args.grid.now in
    let code = g.L.Lane.code in
    let old = c.in-Some.before.items in
    let new = c.in_ok-after.after.items in
    let are : AreHeightsOf code m old = rw c.in-Some.is at c.in_ok-before.ensures in
    let made : ArePlainlyFiltered code c.args.filter m.size c.args.element.now old new = rw (c.deref.ensures.value, c.size-size.ensures) at c.in_ok-after.ensures in
    (are, AreFilteredFrom-plainly code c.args.filter m c.args.element.now old new (g.met.G.Heights.whole c.args.grid.now) c.requires are made)

pub returns : goal.returns
returns g c =
    let m = g.G.Heights.map c.args.grid.now in
    let code = g.L.Lane.code in
    let old = c.in-Some.before.items in
    let new = c.in_ok-after-2.after.items in
    let are : AreHeightsOf code m old = rw c.in-Some.is at c.in_ok-before.ensures in
    let made : ArePlainlyFiltered code c.args.filter m.size c.args.element.now old new = rw c.size-size.ensures at c.in_ok-after-2.ensures in
    (rw c.in-Some-2.is at c.in_ok-again.ensures, AreFilteredFrom-plainly code c.args.filter m c.args.element.now old new (g.met.G.Heights.whole c.args.grid.now) c.requires are made)
