use Rattle.std.proofs.Common.{◌≡◌, ◌∙◌, ◌<◌, List, Option, Some, ℕ, ap, arith, length, set, subst, sym}
use Rattle.std.specs.BinaryHeap.{heap_items}
use Rattle.std.proofs.lemmas.List.{get_or_default}
use Rattle.hd_map.specs.Map.{place_of}
use Rattle.hd_map.proofs.Points.{place_inside}
use Rattle.hd_audit.specs.declared.standing.Standing.TheVariants.{Absent, Over, Seen}
use Rattle.hd_audit.specs.Flooding.{OffersIfPresent}
use Rattle.hd_audit.specs.Standings.{seen_of, standing_at}
use Rattle.hd_audit.proofs.Standings.{OffersIfPresent-over}
use Rattle.hd_audit.proofs.front.offer.Goals as goal

pub returns-in-Over-clause-offers : goal.returns-in-Over-clause-offers
returns-in-Over-clause-offers g c =
    let m = g.G.Heights.map c.args.grid.now in
    let side = g.S.Side.NAME in
    let at = c.args.at in
    let front = c.args.front.now in
    let standing = front.standing.items in
    let index : c.index_of-index.result ≡ place_of m.size at = c.index_of-index.ensures.value ∙ ap (λ s. place_of s at) c.size.ensures in
    let inside : c.index_of-index.result < length standing = (let cells = place_inside m.size at c.requires.in_grid in let long = c.requires.standing.whole in omega (arith, index, cells, long)) in
    let over : standing_at standing c.index_of-index.result ≡ Over = get_or_default standing c.index_of-index.result Absent c.index.result.now inside ∙ sym c.index.ensures ∙ c.in-Over.is in
    let is : standing_at standing (place_of m.size at) ≡ Over = subst (λ i. standing_at standing i ≡ Over) index over in
    subst (λ (ahead : List (Option ℕ)). OffersIfPresent m side at c.args.from c.args.level.now (seen_of standing) front.ahead (heap_items front.low)
    (seen_of (set standing c.index_of-index.result Seen)) ahead (heap_items front.low)) (sym c.put.ensures)
    (subst (λ i. OffersIfPresent m side at c.args.from c.args.level.now (seen_of standing) front.ahead (heap_items front.low) (seen_of (set standing i Seen))
    (set front.ahead i (Some c.args.from)) (heap_items front.low)) (sym index)
    (OffersIfPresent-over m side at c.args.from c.args.level.now standing front.ahead (heap_items front.low) c.requires.in_grid c.requires.standing is))
