use Rattle.std.proofs.Common.{◌≡◌, ◌∙◌, ap, set, subst, sym}
use Rattle.std.specs.BinaryHeap.{heap_items}
use Rattle.hd_map.specs.declared.types.Rank.{Rank}
use Rattle.hd_map.specs.Map.{place_of}
use Rattle.hd_audit.specs.declared.standing.Standing.TheVariants.{Seen}
use Rattle.hd_audit.specs.Flooding.{OffersIfPresent}
use Rattle.hd_audit.specs.Standings.{seen_of}
use Rattle.hd_audit.proofs.Standings.{OffersIfPresent-under, Present-under, AreStanding-seen}
use Rattle.hd_audit.proofs.front.offer_low.Goals as goal

pub rank_of-point-requires : goal.rank_of-point-requires
rank_of-point-requires g c = Present-under (g.G.Heights.map c.args.grid.now) g.S.Side.NAME c.args.level.now c.args.front.now.standing.items c.args.at c.requires.in_grid
    c.requires.standing c.requires.under

pub returns-clause-offers : goal.returns-clause-offers
returns-clause-offers g c =
    let m = g.G.Heights.map c.args.grid.now in
    let side = g.S.Side.NAME in
    let at = c.args.at in
    let front = c.args.front.now in
    let standing = front.standing.items in
    let index : c.rank_of-point.result.index ≡ place_of m.size at = ap (λ (r : Rank). r.index) c.rank_of-point.ensures in
    subst (λ i. OffersIfPresent m side at c.args.from c.args.level.now (seen_of standing) front.ahead (heap_items front.low) (seen_of (set standing i Seen)) front.ahead
    (heap_items c.push.new.self)) (sym index)
    (OffersIfPresent-under m side at c.args.from c.args.level.now standing front.ahead (heap_items front.low) (heap_items c.push.new.self) c.requires.in_grid c.requires.standing c.requires.under
    (record { added = c.new.result; rank_is = c.new.ensures.rank ∙ c.rank_of-point.ensures; from_is = c.new.ensures.from; moved = c.in_ok-push.ensures.permutation }))

pub returns-clause-standing : goal.returns-clause-standing
returns-clause-standing g c = AreStanding-seen (g.G.Heights.map c.args.grid.now) g.S.Side.NAME c.args.level.now c.args.front.now.standing.items c.rank_of-point.result.index c.requires.standing
