use Rattle.std.proofs.Common.{◌≡◌, ap, ◌∙◌, arith}
use Rattle.hd_map.specs.Map.{place_of}
use Rattle.hd_edit.specs.NewNotes.{NewNotesState}
use Rattle.hd_edit.specs.Stroke.{next_in}
use Rattle.hd_edit.proofs.Rectangles.{StandsAt-first, StandsAt-next, next_in-later, StandsAt-low}
use Rattle.hd_edit.proofs.NotedStrokes.{Drawn-first, Drawn-next, Drawn-fits, Drawn-room, Drawn-last, Drawn-few}
use Rattle.hd_edit.proofs.paint.stroke_points.Goals as goal

pub loop-at-init : goal.loop-at-init
loop-at-init g c = let m = g.G.Heights.map c.args.grid.now in record {
  stands = StandsAt-first m.size c.args.from c.args.to c.requires.rectangle;
  drawn = rw (c.in_ok-notes.ensures) (Drawn-first m c.args.from c.args.to c.args.stroke (g.met.G.Heights.whole c.args.grid.now) c.requires.rectangle);
  room = ap (λ (s : NewNotesState). s.room) c.in_ok-notes.ensures;
  origin = g.met.G.Grid.itself c.args.grid.now;
  rises = omega arith;
  few = omega arith;
}

pub stroke_point-requires-clause-in_range : goal.stroke_point-requires-clause-in_range
stroke_point-requires-clause-in_range g c =
    let m = g.G.Heights.map c.args.grid.now in
    Drawn-fits m c.args.from c.args.to c.args.stroke (g.met.G.Heights.whole c.args.grid.now) c.requires.rectangle c.loop-at.at c.loop-at.invariant.stands c.loop-at-test.true
    (g.G.Heights.map c.loop-at.grid) c.loop-at.notes.changes c.loop-at.invariant.drawn c.requires.in_range

pub stroke_point-requires-clause-count : goal.stroke_point-requires-clause-count
stroke_point-requires-clause-count g c =
    let m = g.G.Heights.map c.args.grid.now in
    let room = Drawn-room m c.args.from c.args.to c.args.stroke (g.met.G.Heights.whole c.args.grid.now) c.requires.rectangle c.loop-at.at c.loop-at.invariant.stands
    c.loop-at-test.true (g.G.Heights.map c.loop-at.grid) c.loop-at.notes.changes c.loop-at.invariant.drawn in
    omega (arith, c.loop-at.invariant.few, room, c.requires.room, c.ranges.count.fits, c.requires.changes)

pub stroke_point-requires-clause-room : goal.stroke_point-requires-clause-room
stroke_point-requires-clause-room g c =
    let m = g.G.Heights.map c.args.grid.now in
    rw (c.loop-at.invariant.room, c.requires.room) (Drawn-room m c.args.from c.args.to c.args.stroke
    (g.met.G.Heights.whole c.args.grid.now) c.requires.rectangle c.loop-at.at c.loop-at.invariant.stands c.loop-at-test.true
    (g.G.Heights.map c.loop-at.grid) c.loop-at.notes.changes c.loop-at.invariant.drawn)

pub loop-at-smaller : goal.loop-at-smaller
loop-at-smaller g c =
    let m = g.G.Heights.map c.args.grid.now in
    let later = next_in-later m.size c.args.from c.args.to c.loop-at.at c.requires.rectangle c.loop-at.invariant.stands c.loop-at-test.true in
    let stays = StandsAt-low m.size c.args.from c.args.to c.loop-at.at c.requires.rectangle c.loop-at.invariant.stands in
    let next : place_of m.size c.step-at.result ≡ place_of m.size (next_in c.args.from c.args.to c.loop-at.at) = ap (place_of m.size) c.step-at.ensures in
    omega (arith, later, stays, next)

pub loop-at-preserved : goal.loop-at-preserved
loop-at-preserved g c =
    let m = g.G.Heights.map c.args.grid.now in
    record {
      stands = rw c.step-at.ensures (StandsAt-next m.size c.args.from c.args.to c.loop-at.at c.requires.rectangle c.loop-at.invariant.stands c.loop-at-test.true);
      drawn = rw c.step-at.ensures (Drawn-next m c.args.from c.args.to c.args.stroke
          (g.met.G.Heights.whole c.args.grid.now) c.requires.rectangle c.loop-at.at c.loop-at.invariant.stands c.loop-at-test.true
          (g.G.Heights.map c.loop-at.grid) c.loop-at.notes.changes c.loop-at.invariant.drawn
          (g.G.Heights.map c.stroke_point.new.grid) c.stroke_point.new.notes.changes c.stroke_point.ensures.map c.stroke_point.ensures.before c.stroke_point.ensures.notes c.stroke_point.ensures.len);
      room = c.stroke_point.ensures.room ∙ c.loop-at.invariant.room;
      origin = g.met.G.Grid.onward c.args.grid.now c.loop-at.grid c.stroke_point.new.grid c.loop-at.invariant.origin c.stroke_point.ensures.origin;
      rises = omega (arith, c.loop-at.invariant.rises, c.stroke_point.ensures.rises);
      few = omega (arith, c.loop-at.invariant.few, c.stroke_point.ensures.count);
    }

pub returns-clause-map : goal.returns-clause-map
returns-clause-map g c =
    Drawn-last (g.G.Heights.map c.args.grid.now) c.args.from c.args.to c.args.stroke (g.met.G.Heights.whole c.args.grid.now) c.requires.rectangle c.loop-at.at
    (g.G.Heights.map c.loop-at.grid) c.loop-at.notes.changes c.loop-at-test.false c.loop-at.invariant.drawn

pub returns-clause-notes : goal.returns-clause-notes
returns-clause-notes g c =
    let m = g.G.Heights.map c.args.grid.now in
    let few = Drawn-few m c.args.from c.args.to c.args.stroke (g.met.G.Heights.whole c.args.grid.now) c.requires.rectangle c.loop-at.at
    (g.G.Heights.map c.loop-at.grid) c.loop-at.notes.changes c.loop-at-test.false c.loop-at.invariant.drawn in
    record {
      each = rw c.into_notes.ensures c.loop-at.invariant.drawn.notes_are;
      few = rw c.into_notes.ensures few;
    }

pub returns-clause-count : goal.returns-clause-count
returns-clause-count g c =
    let m = g.G.Heights.map c.args.grid.now in
    let few = Drawn-few m c.args.from c.args.to c.args.stroke (g.met.G.Heights.whole c.args.grid.now) c.requires.rectangle c.loop-at.at
    (g.G.Heights.map c.loop-at.grid) c.loop-at.notes.changes c.loop-at-test.false c.loop-at.invariant.drawn in
    (c.loop-at.invariant.rises, omega (arith, c.loop-at.invariant.few, few))
