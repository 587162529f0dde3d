use Rattle.hd_morph.specs.Listed.{AreHeightsOf}
use Rattle.hd_morph.specs.Lists.{AreFilteredFrom}
use Rattle.hd_morph.proofs.Listed.{AreNewHeights-filtered, IsOutOfRange-first_outside}
use Rattle.hd_morph.proofs.heights.filtered_numbers.Goals as goal

pub returns-in-Some-first_outside : goal.returns-in-Some-first_outside
returns-in-Some-first_outside g c =
    let m = g.G.Heights.map c.args.grid.now in
    let code = g.L.Lane.code in
    let lists = c.in-Some.lists in
    let made : AreHeightsOf code m lists.before.items × AreFilteredFrom code c.args.filter m c.args.element.now lists.after.items = rw c.in-Some.is at c.in_ok-lists.ensures in
    IsOutOfRange-first_outside code c.args.filter m c.args.element.now lists.after.items made.1 c.in-Some-first_outside.at (rw c.deref.ensures.value at c.in-Some-first_outside.ensures)

pub returns : goal.returns
returns g c =
    let m = g.G.Heights.map c.args.grid.now in
    let code = g.L.Lane.code in
    let lists = c.in-Some.lists in
    let made : AreHeightsOf code m lists.before.items × AreFilteredFrom code c.args.filter m c.args.element.now lists.after.items = rw c.in-Some.is at c.in_ok-lists.ensures in
    record {
      held = made.0;
      made = AreNewHeights-filtered code c.args.filter m c.args.element.now lists.after.items made.1 (g.met.G.Heights.whole c.args.grid.now)
          (rw c.deref.ensures.value at c.in_default-first_outside.ensures);
      plain = made.1.plain;
    }
