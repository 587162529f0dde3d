use Rattle.std.proofs.Common.{◌≡◌, ◌∙◌, ◌<◌, ◌≤◌, ◌+◌, ℕ, Bool, List, Some, set, ap, get_or, length, map, subst, sym, arith}
use Rattle.std.specs.BinaryHeap.{heap_items}
use Rattle.std.specs.Prelude.{MatchOption}
use Rattle.std.proofs.lemmas.List.{length-map}
use Rattle.hd_map.specs.declared.types.Rank.{Rank}
use Rattle.hd_prune.specs.Kept.{pits_kept}
use Rattle.hd_audit.specs.declared.order.Placed.{Placed}
use Rattle.hd_audit.specs.declared.standing.Standing.{Standing}
use Rattle.hd_audit.specs.Flooding.{AreNotBelow, ArePassed, IsFrontAt}
use Rattle.hd_audit.specs.Lines.{rank_at}
use Rattle.hd_audit.specs.Placed.{IsPlaced}
use Rattle.hd_audit.specs.Standings.{AreStanding, passed, seen_of, standing_at}
use Rattle.hd_audit.proofs.FrontsAtLevel.{ArePassed-all, ArePassed-next, ArePassed-more}
use Rattle.hd_audit.proofs.Placed.{AreInOrder-rank}
use Rattle.hd_audit.proofs.Standings.{seen_of-passed, AreStanding-first, AreStanding-next}
use Rattle.hd_audit.proofs.listing.list_others.Goals as goal

pub list_from-requires-clause-lowest : goal.list_from-requires-clause-lowest
list_from-requires-clause-lowest g c =
    let m = g.G.Heights.map c.args.grid.now in
    let points : List ℕ = c.in_ok-points.points.items in
    let ranks : List Rank = map (rank_at m) points in
    let place : ℕ = c.loop-place.place in
    let p : Placed = c.in-Some.field-0 in
    let placed : IsPlaced m points place p = subst (λ o. MatchOption o (length points ≤ place) (IsPlaced m points place)) c.in-Some.is c.loop-place.invariant.next in
    let within : place < length ranks = (let long = length-map points (rank_at m) in let inside = placed.inside in omega (arith, long, inside)) in
    subst (λ (r : Rank). AreNotBelow m g.S.Side.NAME c.loop-place.front.ahead r) (sym (AreInOrder-rank m points place p placed p.rank))
    (ArePassed-next m g.S.Side.NAME c.loop-place.front.ahead ranks place p.rank c.in_ok-points.ensures within c.loop-place.invariant.passed)

pub list_from-requires-clause-standing : goal.list_from-requires-clause-standing
list_from-requires-clause-standing g c =
    let m = g.G.Heights.map c.args.grid.now in
    let points : List ℕ = c.in_ok-points.points.items in
    let ranks : List Rank = map (rank_at m) points in
    let place : ℕ = c.loop-place.place in
    let p : Placed = c.in-Some.field-0 in
    let placed : IsPlaced m points place p = subst (λ o. MatchOption o (length points ≤ place) (IsPlaced m points place)) c.in-Some.is c.loop-place.invariant.next in
    let within : place < length ranks = (let long = length-map points (rank_at m) in let inside = placed.inside in omega (arith, long, inside)) in
    subst (λ (r : Rank). AreStanding m g.S.Side.NAME (Some r) c.loop-place.front.standing.items) (sym (AreInOrder-rank m points place p placed p.rank)) (c.loop-place.invariant.standing p.rank within)

pub loop-place-init : goal.loop-place-init
loop-place-init g c =
    let m = g.G.Heights.map c.args.grid.now in
    let points : List ℕ = c.in_ok-points.points.items in
    record {
      next = subst (λ (xs : List ℕ). MatchOption c.placed_at-next.result (length xs ≤ 0) (IsPlaced m xs 0)) c.as_slice.ensures.value c.placed_at-next.ensures;
      shown = c.requires.shown;
      front = c.requires.front;
      passed = λ j d less. absurd (omega (arith, less));
      standing = λ d some. AreStanding-first m g.S.Side.NAME (map (rank_at m) points) c.in_ok-points.ensures c.args.front.now.standing.items d some c.requires.standing;
      heap = c.requires.heap;
    }

pub loop-place-preserved : goal.loop-place-preserved
loop-place-preserved g c =
    let m = g.G.Heights.map c.args.grid.now in
    let side = g.S.Side.NAME in
    let points : List ℕ = c.in_ok-points.points.items in
    let ranks : List Rank = map (rank_at m) points in
    let place : ℕ = c.loop-place.place in
    let p : Placed = c.in-Some.field-0 in
    let placed : IsPlaced m points place p = subst (λ o. MatchOption o (length points ≤ place) (IsPlaced m points place)) c.in-Some.is c.loop-place.invariant.next in
    let within : place < length ranks = (let long = length-map points (rank_at m) in let inside = placed.inside in omega (arith, long, inside)) in
    let x : ℕ = p.rank.index in
    let new = c.list_from.new.front in
    let standing : List Standing = new.standing.items in
    let moved : c.pass.new.standings.items ≡ set standing x (passed (standing_at standing x)) = c.pass.ensures in
    let same : seen_of c.pass.new.standings.items ≡ seen_of standing = ap seen_of moved ∙ seen_of-passed standing x in
    record {
      next = subst (λ (xs : List ℕ). MatchOption c.placed_at-next-in-loop-place.result (length xs ≤ place + 1) (IsPlaced m xs (place + 1))) c.as_slice-in-loop-place.ensures.value
          c.placed_at-next-in-loop-place.ensures;
      shown = c.in_ok-list_from.ensures.shown;
      front = subst (λ (seen : List Bool). IsFrontAt m side c.list_from.new.lines seen new.ahead (heap_items new.low)) (sym same) c.in_ok-list_from.ensures.front;
      passed = ArePassed-more m side new.ahead ranks place p.rank c.in_ok-points.ensures within
          (subst (λ (r : Rank). ArePassed m side new.ahead r) (AreInOrder-rank m points place p placed p.rank) c.in_ok-list_from.ensures.passed);
      standing = λ d more.
          let point : p.rank ≡ get_or ranks place d = AreInOrder-rank m points place p placed d in
          subst (λ (xs : List Standing). AreStanding m side (Some (get_or ranks (place + 1) d)) xs) (sym moved)
          (AreStanding-next m side ranks c.in_ok-points.ensures standing place x d more (ap (λ (r : Rank). r.index) point)
          (subst (λ (r : Rank). AreStanding m side (Some r) standing) point c.in_ok-list_from.ensures.standing));
      heap = c.in_ok-list_from.ensures.heap;
    }

pub returns : goal.returns
returns g c =
    let m = g.G.Heights.map c.args.grid.now in
    let points : List ℕ = c.in_ok-points.points.items in
    ArePassed-all m (g.met.G.Heights.whole c.args.grid.now) g.S.Side.NAME c.args.limit.now.percent.thousandths c.args.limit.now.sz
    (pits_kept c.args.kept.now) c.requires.firm c.loop-place.lines (seen_of c.loop-place.front.standing.items) c.loop-place.front.ahead
    c.loop-place.invariant.shown (heap_items c.loop-place.front.low) (map (rank_at m) points) c.loop-place.invariant.front c.in_ok-points.ensures
    (λ j d less. c.loop-place.invariant.passed j d (let past = c.loop-place-test.false in let is = c.len-place-end.ensures in let long = length-map points (rank_at m) in omega
    (arith, less, past, is, long, c.in_ok-points.points.ok.0)))
