use Rattle.std.proofs.Common.{◌+◌, ◌∙◌, sym, arith}
use Rattle.hd_map.specs.Map.{place_of}
use Rattle.hd_check.proofs.Leaks.{FirstLeak-above, FirstLeak-beside, FirstLeak-below, IsPlaceOf-later}
use Rattle.hd_check.proofs.closed.leak_of.Goals as goal

pub returns-then-is_some-clause-first : goal.returns-then-is_some-clause-first
returns-then-is_some-clause-first g c =
    let m = g.G.Heights.map c.args.surface.now in
    FirstLeak-above m c.args.side c.args.level c.args.cut.now c.args.at c.leak_in-above.result c.leak_in-above.ensures.first (sym c.is_some.ensures ∙ c.if-is_some.true)

pub returns-then-is_some-clause-places : goal.returns-then-is_some-clause-places
returns-then-is_some-clause-places g c =
    let m = g.G.Heights.map c.args.surface.now in
    let index = place_of m.size c.args.at in
    let old = c.args.places.now in
    record {
      above = c.leak_in-above.ensures.place;
      beside = IsPlaceOf-later m.size c.args.cut.now index (index + 1) 1 old.beside (omega arith) c.requires.places.beside;
      below = IsPlaceOf-later m.size c.args.cut.now index (index + 1) 2 old.below (omega arith) c.requires.places.below;
    }

pub returns-then-is_some-2-clause-first : goal.returns-then-is_some-2-clause-first
returns-then-is_some-2-clause-first g c =
    let m = g.G.Heights.map c.args.surface.now in
    FirstLeak-beside m c.args.side c.args.level c.args.cut.now c.args.at c.leak_in-above.result c.leak_in-beside.result c.leak_in-above.ensures.first (sym c.is_some.ensures ∙ c.if-is_some.false)
    c.leak_in-beside.ensures.first (sym c.is_some-2.ensures ∙ c.if-is_some-2.true)

pub returns-then-is_some-2-clause-places : goal.returns-then-is_some-2-clause-places
returns-then-is_some-2-clause-places g c =
    let m = g.G.Heights.map c.args.surface.now in
    let index = place_of m.size c.args.at in
    record {
      above = c.leak_in-above.ensures.place;
      beside = c.leak_in-beside.ensures.place;
      below = IsPlaceOf-later m.size c.args.cut.now index (index + 1) 2 c.args.places.now.below (omega arith) c.requires.places.below;
    }

pub returns-clause-first : goal.returns-clause-first
returns-clause-first g c =
    let m = g.G.Heights.map c.args.surface.now in
    FirstLeak-below m c.args.side c.args.level c.args.cut.now c.args.at c.leak_in-above.result c.leak_in-beside.result c.leak_in.result c.leak_in-above.ensures.first
    (sym c.is_some.ensures ∙ c.if-is_some.false)
    c.leak_in-beside.ensures.first (sym c.is_some-2.ensures ∙ c.if-is_some-2.false) c.leak_in.ensures.first

pub returns-clause-places : goal.returns-clause-places
returns-clause-places g c = record { above = c.leak_in-above.ensures.place; beside = c.leak_in-beside.ensures.place; below = c.leak_in.ensures.place }
