use Rattle.std.proofs.Common.{arith, w64}
use Rattle.std.proofs.lemmas.Int.{ints, to_z-of_z}
use Rattle.hd_map.specs.Encoding.{narrow, values_of}
use Rattle.hd_morph.specs.Listed.{AreHeightsOf}
use Rattle.hd_morph.specs.Plain.{relief}
use Rattle.hd_morph.specs.Rectangle.{AreNumbersRaised}
use Rattle.hd_morph.proofs.RaisedRectangles.{AreRaisedWithin-map, ArePlain-raised}
use Rattle.hd_morph.proofs.rectangle.raised_lists.Goals as goal

pub returns-in-Some-first_outside : goal.returns-in-Some-first_outside
returns-in-Some-first_outside g c =
    let m = g.G.Heights.map c.args.grid.now in
    let olds = c.in-Some.before.items in
    let news = c.in_ok-after.after.items in
    let are : AreHeightsOf narrow m olds = rw c.in-Some.is at c.in_ok-before.ensures in
    let raised : AreNumbersRaised narrow m.size c.args.from c.args.to c.args.number olds news =
    rw (c.deref.ensures.value, c.size.ensures, to_z-of_z w64 c.args.number c.ranges.number) at c.in_ok-after.ensures in
    record {
      heights = relief m.size (values_of narrow news);
      raised = AreRaisedWithin-map narrow m c.args.from c.args.to c.args.number olds news raised are;
      first_outside = rw c.deref-2.ensures.value at c.in-Some-first_outside.ensures;
    }

pub returns : goal.returns
returns g c =
    let m = g.G.Heights.map c.args.grid.now in
    let olds = c.in-Some.before.items in
    let news = c.in_ok-after.after.items in
    let are : AreHeightsOf narrow m olds = rw c.in-Some.is at c.in_ok-before.ensures in
    let raised : AreNumbersRaised narrow m.size c.args.from c.args.to c.args.number olds news =
    rw (c.deref.ensures.value, c.size.ensures, to_z-of_z w64 c.args.number c.ranges.number) at c.in_ok-after.ensures in
    let some = (g.met.G.Heights.whole c.args.grid.now).size.some_points in
    record {
      held = are;
      plain = ArePlain-raised narrow m c.args.from c.args.to c.args.number olds news raised some (omega (arith, ints, c.if-number.false))
          (omega (arith, ints, c.if-number-gt-MOST_NARROW_NUMBER.false)) are.plain;
      raised = AreRaisedWithin-map narrow m c.args.from c.args.to c.args.number olds news raised are;
      of_type = rw c.deref-2.ensures.value at c.in_default-first_outside.ensures;
    }
