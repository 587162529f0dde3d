use Rattle.std.proofs.Common.{Option, Ok, subst, sym}
use Rattle.hd_morph.specs.declared.filter.Filter.TheVariants.{Dilation, Erosion, Opening, Closing}
use Rattle.hd_morph.specs.Element.{ElementTable}
use Rattle.hd_edit.specs.Filter.{IsFilteredBy}
use Rattle.hd_edit.specs.Filtered.{map_after}
use Rattle.hd_edit.proofs.Entries.{IsFilteredMap-lists, IsNewFor-lists}
use Rattle.hd_edit.proofs.filter.filtered.Goals as goal

pub returns-in_ok-lists-in-Dilate-clause-edit : goal.returns-in_ok-lists-in-Dilate-clause-edit
returns-in_ok-lists-in-Dilate-clause-edit g c =
    let m = g.G.Heights.map c.args.grid.now in
    let e : ElementTable = c.in_ok-element-in-Dilate.element.now in
    let lists = c.in_ok-lists-in-Dilate.lists in
    rw c.in-Dilate.is (subst (λ (found : Option ElementTable). IsFilteredBy Dilation m found (Ok (map_after m lists))) (sym c.in_ok-element-in-Dilate.ensures)
    (IsFilteredMap-lists Dilation m e lists c.in_ok-lists-in-Dilate.ensures))

pub returns-in_ok-lists-in-Dilate-clause-heights : goal.returns-in_ok-lists-in-Dilate-clause-heights
returns-in_ok-lists-in-Dilate-clause-heights g c =
    let m = g.G.Heights.map c.args.grid.now in
    IsNewFor-lists Dilation m c.in_ok-element-in-Dilate.element.now c.in_ok-lists-in-Dilate.lists c.in_ok-lists-in-Dilate.ensures

pub returns-in_ok-lists-in-Erode-clause-edit : goal.returns-in_ok-lists-in-Erode-clause-edit
returns-in_ok-lists-in-Erode-clause-edit g c =
    let m = g.G.Heights.map c.args.grid.now in
    let e : ElementTable = c.in_ok-element-in-Erode.element.now in
    let lists = c.in_ok-lists-in-Erode.lists in
    rw c.in-Erode.is (subst (λ (found : Option ElementTable). IsFilteredBy Erosion m found (Ok (map_after m lists))) (sym c.in_ok-element-in-Erode.ensures)
    (IsFilteredMap-lists Erosion m e lists c.in_ok-lists-in-Erode.ensures))

pub returns-in_ok-lists-in-Erode-clause-heights : goal.returns-in_ok-lists-in-Erode-clause-heights
returns-in_ok-lists-in-Erode-clause-heights g c =
    let m = g.G.Heights.map c.args.grid.now in
    IsNewFor-lists Erosion m c.in_ok-element-in-Erode.element.now c.in_ok-lists-in-Erode.lists c.in_ok-lists-in-Erode.ensures

pub returns-in_ok-lists-in-Open-clause-edit : goal.returns-in_ok-lists-in-Open-clause-edit
returns-in_ok-lists-in-Open-clause-edit g c =
    let m = g.G.Heights.map c.args.grid.now in
    let e : ElementTable = c.in_ok-element-in-Open.element.now in
    let lists = c.in_ok-lists-in-Open.lists in
    rw c.in-Open.is (subst (λ (found : Option ElementTable). IsFilteredBy Opening m found (Ok (map_after m lists))) (sym c.in_ok-element-in-Open.ensures)
    (IsFilteredMap-lists Opening m e lists c.in_ok-lists-in-Open.ensures))

pub returns-in_ok-lists-in-Open-clause-heights : goal.returns-in_ok-lists-in-Open-clause-heights
returns-in_ok-lists-in-Open-clause-heights g c =
    let m = g.G.Heights.map c.args.grid.now in
    IsNewFor-lists Opening m c.in_ok-element-in-Open.element.now c.in_ok-lists-in-Open.lists c.in_ok-lists-in-Open.ensures

pub returns-in_ok-lists-in-Close-clause-edit : goal.returns-in_ok-lists-in-Close-clause-edit
returns-in_ok-lists-in-Close-clause-edit g c =
    let m = g.G.Heights.map c.args.grid.now in
    let e : ElementTable = c.in_ok-element-in-Close.element.now in
    let lists = c.in_ok-lists-in-Close.lists in
    rw c.in-Close.is (subst (λ (found : Option ElementTable). IsFilteredBy Closing m found (Ok (map_after m lists))) (sym c.in_ok-element-in-Close.ensures)
    (IsFilteredMap-lists Closing m e lists c.in_ok-lists-in-Close.ensures))

pub returns-in_ok-lists-in-Close-clause-heights : goal.returns-in_ok-lists-in-Close-clause-heights
returns-in_ok-lists-in-Close-clause-heights g c =
    let m = g.G.Heights.map c.args.grid.now in
    IsNewFor-lists Closing m c.in_ok-element-in-Close.element.now c.in_ok-lists-in-Close.lists c.in_ok-lists-in-Close.ensures
