use Rattle.std.proofs.Common.{◌<◌, ◌+◌, inl, inr, refl, ℕ, Bool, List, true, arith, get_or, length, set}
use Rattle.std.proofs.lemmas.Option.{slice_get-get_or, slice_get_within}
use Rattle.hd_map.specs.Rank.{below_by}
use Rattle.hd_map.specs.declared.types.Link.{Link}
use Rattle.hd_graph.specs.Links.{HasEnds}
use Rattle.hd_graph.specs.Onward.{IsOnward}
use Rattle.hd_graph.proofs.LinkOrder.{link-each}
use Rattle.hd_graph.proofs.Reached.{done-kept, done-set, far-from, reached-all, reached-first, reached-next, reached-over, undone, undone-less, undone-set}
use Rattle.hd_graph.proofs.LineSoFar.{line-first, line-next}
use Rattle.hd_graph.proofs.flooding.visit_part.Goals as goal
use Rattle.hd_graph.proofs.flooding.visit_part.Goals.{After-far_end-low}
use Rattle.hd_graph.proofs.flooding.visit_part.Given.{Over}

-- the link that leads on from what the link at a place joins
next : (g : Over) (c : After-far_end-low g) → IsOnward c.args.links.now c.at-link.result.a (c.loop-place.place + 1) (get_or c.args.onward.now (length c.args.lows.now + c.loop-place.place) 0)
next g c =
    let k : ℕ = c.loop-place.place in
    let l : Link = c.at-link.result in
    let e : ℕ = length c.args.lows.now + k in
    let inside = slice_get_within c.args.links.now k l c.at-link.ensures in
    c.requires.onward.each e l.a (k + 1) _ (inr (k, l, c.at-link.ensures, refl, refl, refl, (c.loop-place.invariant.reached.3).apart l c.at-link.ensures))
    (slice_get-get_or c.args.onward.now e 0 (omega (arith, inside, c.requires.onward.long)))

pub loop-place-init : goal.loop-place-init
loop-place-init g c =
    let made = c.in_ok-visit.ensures in
    let o : ℕ = c.args.start in
    let done : List Bool = c.args.done.now in
    let inside : o < length done = omega (arith, c.requires.start, c.requires.line.long) in
    let room : o < length c.args.onward.now = omega (arith, c.requires.start, c.requires.onward.long) in
    let s = made.stops in
    record {
      reached = rw made.done (
        o,
        0,
        reached-first c.args.links.now done o inside c.requires.whole,
        c.requires.onward.each o o 0 _ (inl (c.requires.start, refl, refl))
            (slice_get-get_or c.args.onward.now o 0 room),
      );
      line = rw (made.done, s.1) (line-first (below_by g.S.Side.NAME) g.met.S.Side.order c.args.lows.now c.requires.different c.args.links.now c.requires.sorted c.requires.within
          done c.args.stops.now c.requires.line o s.0 c.requires.start c.if-done-start.false s.2 c.requires.whole s.3);
      start = rw made.done (done-set done o inside);
      kept = λ v h. rw made.done (done-kept done o inside v h);
    }

pub far_end-low-requires : goal.far_end-low-requires
far_end-low-requires g c =
    let ends : HasEnds (length c.args.lows.now) c.at-link.result = link-each (HasEnds (length c.args.lows.now)) c.args.links.now c.loop-place.place c.at-link.result
    c.requires.within c.at-link.ensures in
    rw c.loop-place.invariant.line.long ends

pub loop-place-smaller-then-done-low : goal.loop-place-smaller-then-done-low
loop-place-smaller-then-done-low g c =
    let later = (next g (goal.at.loop-place-smaller-then-done-low g c).After-far_end-low).later in
    omega (arith, later, c.loop-place-test.true, c.len.ensures)

pub loop-place-preserved-then-done-low : goal.loop-place-preserved-then-done-low
loop-place-preserved-then-done-low g c =
    let r = c.loop-place.invariant.reached in
    let l : Link = c.at-link.result in
    record {
      reached = (
        l.a,
        c.loop-place.place + 1,
        reached-over c.args.links.now c.loop-place.done r.0 r.1 c.loop-place.place r.2 r.3 l c.at-link.ensures c.far_end-low.result c.far_end-low.ensures.far c.if-done-low.true,
        next g (goal.at.loop-place-preserved-then-done-low g c).After-far_end-low,
      );
      line = c.loop-place.invariant.line;
      start = c.loop-place.invariant.start;
      kept = c.loop-place.invariant.kept;
    }

pub loop-place-smaller : goal.loop-place-smaller
loop-place-smaller g c =
    let o : ℕ = c.far_end-low.result in
    let done : List Bool = c.loop-place.done in
    rw c.in_ok-visit-2.ensures.done (undone-less (undone (set done o true)) (undone done) (length c.args.links.now) c.loop-place.place _
    (undone-set done o c.far_end-low.ensures.inside c.if-done-low.false))

pub loop-place-preserved : goal.loop-place-preserved
loop-place-preserved g c =
    let made = c.in_ok-visit-2.ensures in
    let r = c.loop-place.invariant.reached in
    let l : Link = c.at-link.result in
    let o : ℕ = c.far_end-low.result in
    let done : List Bool = c.loop-place.done in
    let within : o < length done = c.far_end-low.ensures.inside in
    let inside : o < length c.args.lows.now = omega (arith, within, c.loop-place.invariant.line.long) in
    let room : o < length c.args.onward.now = omega (arith, inside, c.requires.onward.long) in
    let s = made.stops in
    record {
      reached = rw made.done (
        o,
        0,
        reached-next c.args.links.now done r.0 r.1 c.loop-place.place r.2 r.3 l c.at-link.ensures o c.far_end-low.ensures.far within,
        c.requires.onward.each o o 0 _ (inl (inside, refl, refl)) (slice_get-get_or c.args.onward.now o 0 room),
      );
      line = rw (made.done, s.1) (line-next (below_by g.S.Side.NAME) g.met.S.Side.order c.args.lows.now c.requires.different c.args.links.now c.requires.sorted c.requires.within
          done c.loop-place.stops c.loop-place.invariant.line o s.0 inside c.if-done-low.false s.2
          r.0 r.1 c.loop-place.place r.2 r.3 l c.at-link.ensures (far-from c.args.links.now done r.0 r.1 c.loop-place.place r.2 r.3 l c.at-link.ensures o c.far_end-low.ensures.far) s.3);
      start = rw made.done (done-kept done o within c.args.start c.loop-place.invariant.start);
      kept = λ v h. rw made.done (done-kept done o within v (c.loop-place.invariant.kept v h));
    }

pub returns-clause-whole : goal.returns-clause-whole
returns-clause-whole g c =
    let r = c.loop-place.invariant.reached in
    reached-all c.args.links.now c.loop-place.done r.0 r.1 c.loop-place.place r.2 r.3 (omega (arith, c.loop-place-test.false, c.len.ensures))
