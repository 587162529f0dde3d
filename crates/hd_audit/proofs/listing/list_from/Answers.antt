use Rattle.std.proofs.Common.{◌≡◌, ◌∙◌, ◌+◌, ◌<◌, ◌++◌, ◌∷◌, [], ℕ, List, Option, Some, None, length, set, ap, subst, sym, arith}
use Rattle.std.specs.BinaryHeap.{heap_items}
use Rattle.std.proofs.lemmas.List.{length_push}
use Rattle.hd_map.specs.declared.types.Rank.{Rank}
use Rattle.hd_map.specs.Rank.{IsPoint}
use Rattle.hd_prune.specs.Kept.{pits_kept}
use Rattle.hd_audit.specs.declared.types.AuditLine.{AuditLine}
use Rattle.hd_audit.specs.Flooding.{IsFront, next_line, rank_of_waiting}
use Rattle.hd_audit.specs.Lines.{IsPointAt, line_at}
use Rattle.hd_audit.specs.Listing.{AreShownTo}
use Rattle.hd_audit.specs.Standings.{seen_of}
use Rattle.hd_audit.proofs.FrontsAtLevel.{IsListed, IsListed-level, ArePassed-level}
use Rattle.hd_audit.proofs.listing.list_from.Given.{Over}
use Rattle.hd_audit.proofs.listing.list_from.Goals as goal
use Rattle.hd_audit.proofs.listing.list_from.Goals.{In-Some, In_ok-list_point}

-- what is known of the point, if it waits
listed : (g : Over) (c : In-Some g) → IsListed (g.G.Heights.map c.args.grid.now) (g.met.G.Heights.whole c.args.grid.now) g.S.Side.NAME c.args.limit.now.percent.thousandths
    c.args.limit.now.sz (pits_kept c.args.kept.now) c.requires.firm
    c.args.lines.now (seen_of c.args.front.now.standing.items) c.args.front.now.ahead c.requires.shown c.args.point (set c.args.front.now.ahead c.args.point.index None)
    (heap_items c.args.front.now.low) c.in-Some.from c.args.point
listed g c =
    IsListed-level (g.G.Heights.map c.args.grid.now) (g.met.G.Heights.whole c.args.grid.now) g.S.Side.NAME c.args.limit.now.percent.thousandths c.args.limit.now.sz
    (pits_kept c.args.kept.now) c.requires.firm
    c.args.lines.now (seen_of c.args.front.now.standing.items) c.args.front.now.ahead c.requires.shown
    (heap_items c.args.front.now.low) c.args.point c.in-Some.from c.requires.front c.requires.point c.requires.lowest (sym c.place_at.ensures ∙ c.in-Some.is)

-- the lines with that of the point
longer : (g : Over) (c : In_ok-list_point g)
    → c.list_point.new.lines ≡ c.args.lines.now ++ next_line (g.G.Heights.map c.args.grid.now) g.S.Side.NAME c.args.limit.now.percent.thousandths c.args.limit.now.sz
    (line_at c.args.lines.now c.in-Some.from) c.args.point ∷ []
longer g c =
    let m = g.G.Heights.map c.args.grid.now in
    let t = c.args.limit.now.percent.thousandths in
    let sz = c.args.limit.now.sz in
    let lines : List AuditLine = c.args.lines.now in
    c.in_ok-list_point.ensures.lines ∙ ap (λ i. lines ++ next_line m g.S.Side.NAME t sz (line_at lines i) (rank_of_waiting c.new-next.result) ∷ []) c.new-next.ensures.from
    ∙ ap (λ (r : Rank). lines ++ next_line m g.S.Side.NAME t sz (line_at lines c.in-Some.from) r ∷ []) c.new-next.ensures.rank

pub list_point-requires-clause-from : goal.list_point-requires-clause-from
list_point-requires-clause-from g c = subst (λ i. i < length c.args.lines.now) (sym c.new-next.ensures.from) (listed g (goal.at.list_point-requires-clause-from g c).In-Some).before

pub list_point-requires-clause-few : goal.list_point-requires-clause-few
list_point-requires-clause-few g c = (listed g (goal.at.list_point-requires-clause-few g c).In-Some).few

pub list_point-requires-clause-point : goal.list_point-requires-clause-point
list_point-requires-clause-point g c = subst (IsPoint (g.G.Heights.map c.args.grid.now)) (sym c.new-next.ensures.rank) c.requires.point

pub list_point-requires-clause-cut : goal.list_point-requires-clause-cut
list_point-requires-clause-cut g c =
    subst (λ i. (k : ℕ) → (line_at c.args.lines.now i).cut ≡ Some k → IsPointAt (g.G.Heights.map c.args.grid.now) k) (sym c.new-next.ensures.from)
    (listed g (goal.at.list_point-requires-clause-cut g c).In-Some).cut

pub list_low-requires-clause-shown : goal.list_low-requires-clause-shown
list_low-requires-clause-shown g c =
    subst (λ (xs : List AuditLine). AreShownTo (g.G.Heights.map c.args.grid.now) g.S.Side.NAME c.args.limit.now.percent.thousandths c.args.limit.now.sz (pits_kept c.args.kept.now) xs (length xs))
    (sym (longer g (goal.at.list_low-requires-clause-shown g c).In_ok-list_point)) (listed g (goal.at.list_low-requires-clause-shown g c).In-Some).shown

pub list_low-requires-clause-front : goal.list_low-requires-clause-front
list_low-requires-clause-front g c =
    let m = g.G.Heights.map c.args.grid.now in
    let side = g.S.Side.NAME in
    let lines : List AuditLine = c.args.lines.now in
    let front = c.args.front.now in
    let cleared : c.clear.new.self ≡ set front.ahead c.args.point.index None = c.clear.ensures in
    let items = longer g (goal.at.list_low-requires-clause-front g c).In_ok-list_point in
    let next : AuditLine = next_line m side c.args.limit.now.percent.thousandths c.args.limit.now.sz (line_at lines c.in-Some.from) c.args.point in
    let long : length lines + 1 ≡ length c.list_point.new.lines = (let more = length_push lines next in let same = ap length items in omega (arith, more, same)) in
    let new = c.list_point.new.front in
    subst (λ i. IsFront m side c.list_point.new.lines (Some c.args.point) (seen_of new.standing.items) new.ahead (heap_items new.low) i) long
    (c.in_ok-list_point.ensures.spreads (subst (λ (ahead : List (Option ℕ)). IsFront m side c.list_point.new.lines (Some c.args.point) (seen_of front.standing.items) ahead
    (heap_items front.low) (length lines)) (sym cleared)
    (subst (λ (xs : List AuditLine). IsFront m side xs (Some c.args.point) (seen_of front.standing.items) (set front.ahead c.args.point.index None) (heap_items front.low)
    (length lines)) (sym items) (listed g (goal.at.list_low-requires-clause-front g c).In-Some).front)))

pub returns-clause-passed : goal.returns-clause-passed
returns-clause-passed g c =
    let new = c.list_low.new.front in
    ArePassed-level (g.G.Heights.map c.args.grid.now) g.S.Side.NAME c.list_low.new.lines c.args.point (seen_of new.standing.items) new.ahead (heap_items new.low)
    (length c.list_low.new.lines) c.in_ok-list_low.ensures.front
