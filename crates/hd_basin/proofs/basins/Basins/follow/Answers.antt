use Rattle.std.proofs.Common.{◌≡◌, ◌<◌, ◌++◌, ◌∷◌, [], ◌∙◌, Option, ap, arith, length, refl, subst, sym}
use Rattle.hd_map.proofs.Depth.{depth_by}
use Rattle.hd_basin.specs.declared.node.Node.{Node}
use Rattle.hd_basin.specs.Parts.{low_or_none}
use Rattle.hd_basin.specs.Roots.{AreFirsts, IsPitNumber, Rooted, all_nodes}
use Rattle.hd_basin.specs.Spots.{node_named, place_of_node}
use Rattle.hd_basin.proofs.AreKnown.{IsOnWay, falls, read-here, way-next}
use Rattle.hd_basin.proofs.Spotted.{spot-inside, spot-place, spot-read}
use Rattle.hd_basin.proofs.basins.Basins.follow.Goals as goal

pub overflow_add-place : goal.overflow_add-place
overflow_add-place g c =
    let parts = c.args.self.now.parts in
    let w = c.walk.invariant in
    let firsts = subst (AreFirsts parts) (sym (ap (λ (r : Rooted). r.firsts) c.roots.view_is)) c.requires.known.firsts in
    let place = spot-read parts c.roots.inside.firsts.items firsts c.walk.here w.node w.at c.index.result.now c.index.ensures in
    let inside = spot-inside parts c.walk.here w.node w.at in
    let long : length c.roots.inside.numbers.items ≡ length (all_nodes parts) = ap (λ (r : Rooted). length r.numbers) c.roots.view_is ∙ c.requires.known.whole in
    let small = c.roots.inside.numbers.small in
    let count = c.roots.inside.numbers.ok in
    omega (arith, place, inside, long, small, count)

pub index-number-requires : goal.index-number-requires
index-number-requires g c =
    let parts = c.args.self.now.parts in
    let w = c.walk.invariant in
    let firsts = subst (AreFirsts parts) (sym (ap (λ (r : Rooted). r.firsts) c.roots.view_is)) c.requires.known.firsts in
    let place = spot-read parts c.roots.inside.firsts.items firsts c.walk.here w.node w.at c.index.result.now c.index.ensures in
    let inside = spot-inside parts c.walk.here w.node w.at in
    let long : length c.roots.inside.numbers.items ≡ length (all_nodes parts) = ap (λ (r : Rooted). length r.numbers) c.roots.view_is ∙ c.requires.known.whole in
    let count = c.roots.inside.numbers.ok.0 in
    omega (arith, place, inside, long, count)

pub returns-then-number-clause-way : goal.returns-then-number-clause-way
returns-then-number-clause-way g c =
    let side = g.S.Side.NAME in
    let pool = c.args.self.now in
    let w = c.walk.invariant in
    let pits = c.args.roots.now.pits in
    let read = (read-here c.args.self.now.parts c.args.roots.now c.requires.known.firsts c.requires.known.whole c.roots.inside.firsts.items c.roots.inside.numbers.items
    (ap (λ (r : Rooted). r.firsts) c.roots.view_is) (ap (λ (r : Rooted). r.numbers) c.roots.view_is) c.walk.here c.walk.invariant.node c.walk.invariant.at c.index.result.now
    c.index-number.result.now c.index.ensures c.index-number.ensures).1 in
    let here : IsPitNumber side pool pits w.node c.index-number.result.now =
    subst (IsPitNumber side pool pits w.node) (sym read)
    (c.requires.known.each (place_of_node pool.parts c.walk.here) w.node (spot-place pool.parts c.walk.here w.node w.at) (λ e. c.if-number.true (read ∙ e))) in
    λ at has. (let l = w.lead at has in (l.0, l.1, l.2 c.index-number.result.now here))

pub onward-here-requires-clause-flows : goal.onward-here-requires-clause-flows
onward-here-requires-clause-flows g c = λ n at ends. (
    let parts = c.args.self.now.parts in
    c.requires.known.ends (place_of_node parts c.walk.here) n (spot-place parts c.walk.here n at) ends
    (sym (read-here c.args.self.now.parts c.args.roots.now c.requires.known.firsts c.requires.known.whole c.roots.inside.firsts.items c.roots.inside.numbers.items
    (ap (λ (r : Rooted). r.firsts) c.roots.view_is) (ap (λ (r : Rooted). r.numbers) c.roots.view_is) c.walk.here c.walk.invariant.node c.walk.invariant.at c.index.result.now
    c.index-number.result.now c.index.ensures c.index-number.ensures).1 ∙ c.if-number.false))

pub walk-smaller : goal.walk-smaller
walk-smaller g c =
    let side = g.S.Side.NAME in
    let pool = c.args.self.now in
    let w = c.walk.invariant in
    let on = c.onward-here.ensures w.node w.at in
    subst (λ (o : Option Node). depth_by side (low_or_none o) < depth_by side (low_or_none (node_named pool.parts c.walk.here))) (sym on.spot.1)
    (subst (λ (o : Option Node). depth_by side on.spot.0.low < depth_by side (low_or_none o)) (sym w.at)
    (falls side pool w.node on.spot.0 c.walk.here c.onward-here.result c.requires.map w.at on on.spot.1))

pub walk-preserved : goal.walk-preserved
walk-preserved g c =
    let side = g.S.Side.NAME in
    let pool = c.args.self.now in
    let w = c.walk.invariant in
    let on = c.onward-here.ensures w.node w.at in
    let way : c.push.new.self.items ≡ c.walk.way.items ++ place_of_node pool.parts c.walk.here ∷ [] =
    c.in_ok-push.ensures.items ∙ ap (λ k. c.walk.way.items ++ k ∷ [])
    (read-here c.args.self.now.parts c.args.roots.now c.requires.known.firsts c.requires.known.whole c.roots.inside.firsts.items c.roots.inside.numbers.items
    (ap (λ (r : Rooted). r.firsts) c.roots.view_is) (ap (λ (r : Rooted). r.numbers) c.roots.view_is) c.walk.here c.walk.invariant.node c.walk.invariant.at c.index.result.now
    c.index-number.result.now c.index.ensures c.index-number.ensures).0 in
    subst (IsOnWay side pool c.args.roots.now.pits c.args.spot c.onward-here.result) (sym way)
    (way-next side pool w.node on.spot.0 c.walk.here c.onward-here.result c.requires.map w.at on on.spot.1 c.args.roots.now.pits c.args.spot c.walk.way.items w refl)
