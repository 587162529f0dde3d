use Rattle.std.proofs.Common.{◌≡◌, ◌∙◌, ◌<◌, ◌+◌, ◌++◌, ◌∷◌, [], List, Some, ap, arith, length, subst, sym}
use Rattle.std.specs.BinaryHeap.{heap_items}
use Rattle.std.proofs.lemmas.List.{length_push}
use Rattle.hd_map.specs.declared.types.Rank.{Rank}
use Rattle.hd_map.specs.Map.{position_at}
use Rattle.hd_map.proofs.Points.{rank_position}
use Rattle.hd_audit.specs.declared.types.AuditLine.{AuditLine}
use Rattle.hd_audit.specs.Flooding.{IsFront, rank_of_waiting}
use Rattle.hd_audit.specs.Lines.{point_at}
use Rattle.hd_audit.specs.Standings.{seen_of}
use Rattle.hd_audit.proofs.Lines.{line_at-push_new}
use Rattle.hd_audit.proofs.listing.list_point.Goals as goal

pub line_of-line-requires-clause-cut : goal.line_of-line-requires-clause-cut
line_of-line-requires-clause-cut g c = λ k e. c.requires.cut k (ap (λ (x : AuditLine). x.cut) (sym c.at.ensures) ∙ e)

pub returns-clause-spreads : goal.returns-clause-spreads
returns-clause-spreads g c =
    let m = g.G.Heights.map c.args.grid.now in
    let lines : List AuditLine = c.args.lines.now in
    let line : AuditLine = c.line_of-line.result in
    let old = c.args.front.now in
    let new = c.spread.new.front in
    let last : c.len-place.result ≡ length lines = c.len-place.ensures in
    let items : c.push.new.self ≡ lines ++ line ∷ [] = c.in_ok-push.ensures.ok in
    let long : c.len-place.result < length c.push.new.self = (let longer = length_push lines line in let same = ap length items in omega (arith, longer, same, last)) in
    let index : line.index ≡ (rank_of_waiting c.args.next).index = ap (λ (x : AuditLine). x.index) c.line_of-line.ensures ∙ ap (λ (r : Rank). r.index) c.rank.ensures in
    let is_at : point_at m c.push.new.self c.len-place.result ≡ c.args.at = ap (λ (xs : List AuditLine). point_at m xs c.len-place.result) items
    ∙ ap (λ (x : AuditLine). position_at m.size x.index) (line_at-push_new lines line c.len-place.result (sym last))
    ∙ ap (position_at m.size) index ∙ rank_position m (rank_of_waiting c.args.next) c.args.at c.requires.present c.requires.at in
    subst (λ i. IsFront m g.S.Side.NAME c.push.new.self (Some c.args.level) (seen_of old.standing.items) old.ahead (heap_items old.low) i
    → IsFront m g.S.Side.NAME c.push.new.self (Some c.args.level) (seen_of new.standing.items) new.ahead (heap_items new.low) (i + 1))
    last (λ f. c.in_ok-spread.ensures.spreads c.push.new.self f long is_at)
