use Rattle.std.proofs.Common.{◌≡◌, ◌∙◌, ◌<◌, ◌+◌, ◌++◌, ◌∷◌, [], List, Some, length, ap, subst, sym, arith}
use Rattle.std.specs.BinaryHeap.{heap_items}
use Rattle.std.proofs.lemmas.List.{length_push}
use Rattle.hd_map.specs.declared.types.Size.{Size}
use Rattle.hd_map.specs.Map.{Present, cell_count, position_at}
use Rattle.hd_map.specs.Rank.{IsPoint, rank}
use Rattle.hd_map.proofs.Points.{rank_position, point_inside}
use Rattle.hd_prune.specs.Kept.{pits_kept}
use Rattle.hd_audit.specs.declared.types.AuditLine.{AuditLine}
use Rattle.hd_audit.specs.Flooding.{IsFront, next_line, rank_of_waiting}
use Rattle.hd_audit.specs.Lines.{line_at}
use Rattle.hd_audit.specs.Listing.{AreShownTo}
use Rattle.hd_audit.specs.Standings.{seen_of}
use Rattle.hd_audit.proofs.FrontsAtLevel.{IsListed, IsListed-low}
use Rattle.hd_audit.proofs.listing.list_low.Given.{Over}
use Rattle.hd_audit.proofs.listing.list_low.Goals as goal
use Rattle.hd_audit.proofs.listing.list_low.Goals.{After-position_of-at, In-Some}

-- what is known of the lowest in the heap
listed : (g : Over) (c : In-Some g) → IsListed (g.G.Heights.map c.args.grid.now) (g.met.G.Heights.whole c.args.grid.now) g.S.Side.NAME c.args.limit.now.percent.thousandths
    c.args.limit.now.sz (pits_kept c.args.kept.now) c.requires.firm
    c.loop-next.lines (seen_of c.loop-next.front.standing.items) c.loop-next.front.ahead c.loop-next.invariant.shown c.args.level c.loop-next.front.ahead
    (heap_items c.pop.new.self) c.in-Some.next.from (rank_of_waiting c.in-Some.next)
listed g c =
    IsListed-low (g.G.Heights.map c.args.grid.now) (g.met.G.Heights.whole c.args.grid.now) g.S.Side.NAME c.args.limit.now.percent.thousandths c.args.limit.now.sz
    (pits_kept c.args.kept.now) c.requires.firm
    c.loop-next.lines (seen_of c.loop-next.front.standing.items) c.loop-next.front.ahead c.loop-next.invariant.shown c.args.level (heap_items c.loop-next.front.low)
    (heap_items c.pop.new.self) c.in-Some.next
    c.loop-next.invariant.front c.in-Some.ensures.permutation (c.in-Some.ensures.heap_order c.loop-next.invariant.heap).1

-- its index is that of its position
stands : (g : Over) (c : After-position_of-at g) (point : IsPoint (g.G.Heights.map c.args.grid.now) (rank_of_waiting c.in-Some.next)) → c.position_of-at.result ≡ point.at
stands g c point =
    c.position_of-at.ensures.value ∙ ap (λ (s : Size). position_at s c.in-Some.next.index) c.size.ensures
    ∙ rank_position (g.G.Heights.map c.args.grid.now) (rank_of_waiting c.in-Some.next) point.at point.present point.rank_is

pub list_point-requires-clause-from : goal.list_point-requires-clause-from
list_point-requires-clause-from g c = (listed g (goal.at.list_point-requires-clause-from g c).In-Some).before

pub list_point-requires-clause-few : goal.list_point-requires-clause-few
list_point-requires-clause-few g c = (listed g (goal.at.list_point-requires-clause-few g c).In-Some).few

pub list_point-requires-clause-point : goal.list_point-requires-clause-point
list_point-requires-clause-point g c = (listed g (goal.at.list_point-requires-clause-point g c).In-Some).is_point

pub list_point-requires-clause-cut : goal.list_point-requires-clause-cut
list_point-requires-clause-cut g c = (listed g (goal.at.list_point-requires-clause-cut g c).In-Some).cut

pub position_of-at-requires : goal.position_of-at-requires
position_of-at-requires g c =
    subst (λ (s : Size). c.in-Some.next.index < cell_count s) (sym c.size.ensures)
    (point_inside (g.G.Heights.map c.args.grid.now) (rank_of_waiting c.in-Some.next) (listed g (goal.at.position_of-at-requires g c).In-Some).is_point)

pub list_point-requires-clause-present : goal.list_point-requires-clause-present
list_point-requires-clause-present g c =
    let point = (listed g (goal.at.list_point-requires-clause-present g c).In-Some).is_point in
    subst (Present (g.G.Heights.map c.args.grid.now)) (sym (stands g (goal.at.list_point-requires-clause-present g c).After-position_of-at point)) point.present

pub list_point-requires-clause-at : goal.list_point-requires-clause-at
list_point-requires-clause-at g c =
    let point = (listed g (goal.at.list_point-requires-clause-at g c).In-Some).is_point in
    point.rank_is ∙ ap (rank (g.G.Heights.map c.args.grid.now)) (sym (stands g (goal.at.list_point-requires-clause-at g c).After-position_of-at point))

pub loop-next-preserved : goal.loop-next-preserved
loop-next-preserved g c =
    let m = g.G.Heights.map c.args.grid.now in
    let side = g.S.Side.NAME in
    let t = c.args.limit.now.percent.thousandths in
    let sz = c.args.limit.now.sz in
    let kept = pits_kept c.args.kept.now in
    let lines : List AuditLine = c.loop-next.lines in
    let front = c.loop-next.front in
    let w = c.in-Some.next in
    let so = listed g (goal.at.loop-next-preserved g c).In-Some in
    let next : AuditLine = next_line m side t sz (line_at lines w.from) (rank_of_waiting w) in
    let items : c.list_point.new.lines ≡ lines ++ next ∷ [] = c.in_ok-list_point.ensures.lines in
    let long : length lines + 1 ≡ length c.list_point.new.lines = (let longer = length_push lines next in let same = ap length items in omega (arith, longer, same)) in
    let new = c.list_point.new.front in
    record {
      shown = subst (λ (xs : List AuditLine). AreShownTo m side t sz kept xs (length xs)) (sym items) so.shown;
      front = subst (λ i. IsFront m side c.list_point.new.lines (Some c.args.level) (seen_of new.standing.items) new.ahead (heap_items new.low) i) long
          (c.in_ok-list_point.ensures.spreads (subst (λ (xs : List AuditLine). IsFront m side xs (Some c.args.level) (seen_of front.standing.items) front.ahead
          (heap_items c.pop.new.self) (length lines)) (sym items) so.front));
      standing = c.in_ok-list_point.ensures.standing;
      heap = c.in_ok-list_point.ensures.heap;
    }
