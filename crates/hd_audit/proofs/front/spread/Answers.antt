use Rattle.std.proofs.Common.{arith}
use Rattle.std.specs.BinaryHeap.{heap_items}
use Rattle.hd_audit.specs.Standings.{seen_of}
use Rattle.hd_audit.proofs.Fronts.{IsRound-all, IsRound-begin, IsRound-centre, IsRound-more}
use Rattle.hd_audit.proofs.front.spread.Goals as goal

pub returns-clause-spreads : goal.returns-clause-spreads
returns-clause-spreads g c = λ lines f inside is_at.
    let m = g.G.Heights.map c.args.grid.now in
    let side = g.S.Side.NAME in
    let level = c.args.level.now in
    let from = c.args.from in
    let at = c.args.at in
    let here = c.requires.present in
    let front0 = c.args.front.now in
    let front1 = c.offer_at.new.front in
    let front2 = c.offer_at-2.new.front in
    let front3 = c.offer_at-3.new.front in
    let front4 = c.offer_at-4.new.front in
    let front5 = c.offer_at-5.new.front in
    let front6 = c.offer_at-6.new.front in
    let front7 = c.offer_at-7.new.front in
    let front8 = c.offer_at-8.new.front in
    let round0 = IsRound-begin m side lines level from inside at is_at (seen_of front0.standing.items) front0.ahead (heap_items front0.low) f in
    let round1 = IsRound-more m side lines level from inside at is_at here 0 (seen_of front0.standing.items) front0.ahead (heap_items front0.low)
    (seen_of front1.standing.items) front1.ahead (heap_items front1.low) (omega arith) (λ e. omega (arith, e)) c.in_ok-offer_at.ensures.offers round0 in
    let round2 = IsRound-more m side lines level from inside at is_at here 1 (seen_of front1.standing.items) front1.ahead (heap_items front1.low)
    (seen_of front2.standing.items) front2.ahead (heap_items front2.low) (omega arith) (λ e. omega (arith, e)) c.in_ok-offer_at-2.ensures.offers round1 in
    let round3 = IsRound-more m side lines level from inside at is_at here 2 (seen_of front2.standing.items) front2.ahead (heap_items front2.low)
    (seen_of front3.standing.items) front3.ahead (heap_items front3.low) (omega arith) (λ e. omega (arith, e)) c.in_ok-offer_at-3.ensures.offers round2 in
    let round4 = IsRound-more m side lines level from inside at is_at here 3 (seen_of front3.standing.items) front3.ahead (heap_items front3.low)
    (seen_of front4.standing.items) front4.ahead (heap_items front4.low) (omega arith) (λ e. omega (arith, e)) c.in_ok-offer_at-4.ensures.offers round3 in
    let centre = IsRound-centre m side lines level from inside at is_at 4 (seen_of front4.standing.items) front4.ahead (heap_items front4.low) (omega arith) round4 in
    let round5 = IsRound-more m side lines level from inside at is_at here 5 (seen_of front4.standing.items) front4.ahead (heap_items front4.low)
    (seen_of front5.standing.items) front5.ahead (heap_items front5.low) (omega arith) (λ e. omega (arith, e)) c.in_ok-offer_at-5.ensures.offers centre in
    let round6 = IsRound-more m side lines level from inside at is_at here 6 (seen_of front5.standing.items) front5.ahead (heap_items front5.low)
    (seen_of front6.standing.items) front6.ahead (heap_items front6.low) (omega arith) (λ e. omega (arith, e)) c.in_ok-offer_at-6.ensures.offers round5 in
    let round7 = IsRound-more m side lines level from inside at is_at here 7 (seen_of front6.standing.items) front6.ahead (heap_items front6.low)
    (seen_of front7.standing.items) front7.ahead (heap_items front7.low) (omega arith) (λ e. omega (arith, e)) c.in_ok-offer_at-7.ensures.offers round6 in
    let round8 = IsRound-more m side lines level from inside at is_at here 8 (seen_of front7.standing.items) front7.ahead (heap_items front7.low)
    (seen_of front8.standing.items) front8.ahead (heap_items front8.low) (omega arith) (λ e. omega (arith, e)) c.in_ok-offer_at-8.ensures.offers round7 in
    IsRound-all m side lines level from inside at is_at 9 (seen_of front8.standing.items) front8.ahead (heap_items front8.low) (omega arith) round8
