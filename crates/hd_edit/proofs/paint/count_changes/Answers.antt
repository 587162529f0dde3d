use Rattle.std.proofs.Common.{◌≡◌, ◌+◌, ap, arith, if◌then◌else◌}
use Rattle.hd_map.specs.Map.{place_of}
use Rattle.hd_map.proofs.Points.{place_inside}
use Rattle.hd_edit.specs.Stroke.{next_in, changes_at}
use Rattle.hd_edit.proofs.Rectangles.{StandsAt-first, StandsAt-next, StandsAt-inside, next_in-later, StandsAt-low}
use Rattle.hd_edit.proofs.Strokes.{count_below-few}
use Rattle.hd_edit.proofs.CountedChanges.{Counted-first, Counted-next, Counted-last, Counted-refused}
use Rattle.hd_edit.proofs.paint.count_changes.Goals as goal
use Rattle.hd_edit.proofs.paint.count_changes.Goals.{then-changes, else-changes}

pub loop-at-init : goal.loop-at-init
loop-at-init g c = let m = g.G.Heights.map c.args.grid.now in record {
  stands = StandsAt-first m.size c.args.from c.args.to c.requires;
  counted = Counted-first m c.args.from c.args.to c.args.stroke (g.met.G.Heights.whole c.args.grid.now) c.requires;
}

pub returns-in_default : goal.returns-in_default
returns-in_default g c =
    let m = g.G.Heights.map c.args.grid.now in
    Counted-refused m c.args.from c.args.to c.args.stroke (g.met.G.Heights.whole c.args.grid.now) c.requires c.loop-at.at c.loop-at.invariant.stands c.loop-at-test.true
    c.loop-at.count c.loop-at.invariant.counted c.in_default.ensures

pub overflow_add-count : goal.overflow_add-count
overflow_add-count g c =
    let m = g.G.Heights.map c.args.grid.now in
    let inside = StandsAt-inside m.size c.args.from c.args.to c.loop-at.at c.requires c.loop-at.invariant.stands c.loop-at-test.true in
    let size = (g.met.G.Heights.whole c.args.grid.now).size.cells in
    omega (
      arith,
      c.loop-at.invariant.counted.count_is,
      count_below-few (changes_at m c.args.from c.args.to c.args.stroke) (place_of m.size c.loop-at.at),
      place_inside m.size c.loop-at.at inside,
      size,
    )

pub loop-at-smaller : goal.loop-at-smaller
loop-at-smaller g c =
    let m = g.G.Heights.map c.args.grid.now in
    let later = next_in-later m.size c.args.from c.args.to c.loop-at.at c.requires c.loop-at.invariant.stands c.loop-at-test.true in
    let stays = StandsAt-low m.size c.args.from c.args.to c.loop-at.at c.requires c.loop-at.invariant.stands in
    let next : place_of m.size c.step-at.result ≡ place_of m.size (next_in c.args.from c.args.to c.loop-at.at) = ap (place_of m.size) c.step-at.ensures in
    omega (arith, later, stays, next)

pub loop-at-preserved : goal.loop-at-preserved
loop-at-preserved g c = record {
  stands = rw c.step-at.ensures (StandsAt-next (g.G.Heights.map c.args.grid.now).size c.args.from c.args.to c.loop-at.at c.requires c.loop-at.invariant.stands c.loop-at-test.true);
  counted =
      let m = g.G.Heights.map c.args.grid.now in
      let next = Counted-next m c.args.from c.args.to c.args.stroke (g.met.G.Heights.whole c.args.grid.now) c.requires c.loop-at.at c.loop-at.invariant.stands c.loop-at-test.true
      c.loop-at.count c.in-Some.changes
      c.loop-at.invariant.counted c.in-Some.ensures.0 c.in-Some.ensures.1 in
      let count : c.if-changes.count ≡ c.loop-at.count + (if c.in-Some.changes then 1 else 0) = elim c.if-changes.branch [
        | then-changes w ↦ rw (w.count-is, w.if-changes.true)
        | else-changes w ↦ rw (w.count-is, w.if-changes.false) (omega arith)
      ] in
      rw (c.step-at.ensures, count) next;
}

pub returns : goal.returns
returns g c = Counted-last (g.G.Heights.map c.args.grid.now) c.args.from c.args.to c.args.stroke
    (g.met.G.Heights.whole c.args.grid.now) c.requires c.loop-at.at c.loop-at.count c.loop-at-test.false c.loop-at.invariant.counted
