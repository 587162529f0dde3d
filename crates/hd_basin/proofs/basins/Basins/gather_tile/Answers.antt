use Rattle.std.proofs.Common.{◌≡◌, ◌<◌, ◌+◌, ◌∙◌, List, Option, Some, ap, arith, length, slice_get, subst, sym, take}
use Rattle.hd_map.specs.declared.types.Rank.{Rank}
use Rattle.hd_steep.specs.Crossings.{pit_at}
use Rattle.hd_basin.specs.declared.part.Part.{Part}
use Rattle.hd_basin.specs.declared.spot.Spot.{Spot}
use Rattle.hd_basin.specs.Extents.{AreGathered}
use Rattle.hd_basin.specs.Parts.{Pool}
use Rattle.hd_basin.specs.Roots.{AreFirsts, Rooted, all_nodes, nodes_before}
use Rattle.hd_basin.specs.Spots.{node_in, node_named, place_of_node}
use Rattle.hd_basin.proofs.AreKnown.{read-here}
use Rattle.hd_basin.proofs.GatheredExtents.{gathered-few, gathered-step}
use Rattle.hd_basin.proofs.Spotted.{before-more, named-of, spot-inside, spot-place, spot-read}
use Rattle.hd_basin.proofs.basins.Basins.gather_tile.Goals as goal

pub overflow_add-first : goal.overflow_add-first
overflow_add-first g c =
    let parts = c.args.self.now.parts in
    let part = c.part-part.result in
    let at : slice_get parts c.args.tile ≡ Some part = ap (λ (p : Pool). slice_get p.parts c.args.tile) (sym c.self.view_is) ∙ c.part-part.ensures in
    let count = c.count-count.ensures in
    let less = c.numbers-test.true in
    let s : Spot = record { tile = c.args.tile; number = c.numbers.number } in
    let n = named-of parts c.args.tile c.numbers.number part at (omega (arith, count, less)) in
    let firsts = subst (AreFirsts parts) (sym (ap (λ (r : Rooted). r.firsts) c.roots.view_is)) c.requires.roots.firsts in
    let place = spot-read parts c.roots.inside.firsts.items firsts s n.0 n.1 c.index-first.result.now c.index-first.ensures in
    let inside = spot-inside parts s n.0 n.1 in
    let long : length c.roots.inside.numbers.items ≡ length (all_nodes parts) = ap (λ (r : Rooted). length r.numbers) c.roots.view_is ∙ c.requires.roots.whole in
    let small = c.roots.inside.numbers.small in
    let whole = c.roots.inside.numbers.ok in
    omega (arith, place, inside, long, small, whole)

pub index-pit-requires : goal.index-pit-requires
index-pit-requires g c =
    let parts = c.args.self.now.parts in
    let part = c.part-part.result in
    let at : slice_get parts c.args.tile ≡ Some part = ap (λ (p : Pool). slice_get p.parts c.args.tile) (sym c.self.view_is) ∙ c.part-part.ensures in
    let count = c.count-count.ensures in
    let less = c.numbers-test.true in
    let s : Spot = record { tile = c.args.tile; number = c.numbers.number } in
    let n = named-of parts c.args.tile c.numbers.number part at (omega (arith, count, less)) in
    let firsts = subst (AreFirsts parts) (sym (ap (λ (r : Rooted). r.firsts) c.roots.view_is)) c.requires.roots.firsts in
    let place = spot-read parts c.roots.inside.firsts.items firsts s n.0 n.1 c.index-first.result.now c.index-first.ensures in
    let inside = spot-inside parts s n.0 n.1 in
    let long : length c.roots.inside.numbers.items ≡ length (all_nodes parts) = ap (λ (r : Rooted). length r.numbers) c.roots.view_is ∙ c.requires.roots.whole in
    let whole = c.roots.inside.numbers.ok.0 in
    omega (arith, place, inside, long, whole)

pub bounds-pits-pit : goal.bounds-pits-pit
bounds-pits-pit g c =
    let parts = c.args.self.now.parts in
    let has = c.requires.map in
    let part = c.part-part.result in
    let at : slice_get parts c.args.tile ≡ Some part = ap (λ (p : Pool). slice_get p.parts c.args.tile) (sym c.self.view_is) ∙ c.part-part.ensures in
    let count = c.count-count.ensures in
    let less = c.numbers-test.true in
    let s : Spot = record { tile = c.args.tile; number = c.numbers.number } in
    let n = named-of parts c.args.tile c.numbers.number part at (omega (arith, count, less)) in
    let read = read-here parts c.args.roots.now c.requires.roots.firsts c.requires.roots.whole c.roots.inside.firsts.items c.roots.inside.numbers.items
    (ap (λ (r : Rooted). r.firsts) c.roots.view_is) (ap (λ (r : Rooted). r.numbers) c.roots.view_is) s n.0 n.1 c.index-first.result.now c.index-pit.result.now c.index-first.ensures
    c.index-pit.ensures in
    let k = (c.requires.roots.numbers (place_of_node parts s) n.0 (spot-place parts s n.0 n.1) has.map has.whole has.pool_of).inside in
    let long : length c.pits-pits.result.now ≡ length c.args.roots.now.pits = ap length c.pits-pits.ensures in
    let number = read.1 in
    omega (arith, k, long, number)

pub add_basin-requires-clause-inside : goal.add_basin-requires-clause-inside
add_basin-requires-clause-inside g c =
    let parts = c.args.self.now.parts in
    let part = c.part-part.result in
    let at : slice_get parts c.args.tile ≡ Some part = ap (λ (p : Pool). slice_get p.parts c.args.tile) (sym c.self.view_is) ∙ c.part-part.ensures in
    let s : Spot = record { tile = c.args.tile; number = c.numbers.number } in
    let n = c.node.result in
    let named : node_named parts s ≡ Some n = ap (λ (o : Option Part). node_in o c.numbers.number) at ∙ c.node.ensures in
    let read = read-here parts c.args.roots.now c.requires.roots.firsts c.requires.roots.whole c.roots.inside.firsts.items c.roots.inside.numbers.items
    (ap (λ (r : Rooted). r.firsts) c.roots.view_is) (ap (λ (r : Rooted). r.numbers) c.roots.view_is) s n named c.index-first.result.now c.index-pit.result.now c.index-first.ensures
    c.index-pit.ensures in
    let has = c.requires.map in
    let k = (c.requires.roots.numbers (place_of_node parts s) n (spot-place parts s n named) has.map has.whole has.pool_of).inside in
    let whole = (c.numbers.invariant has.map has.whole has.pool_of).whole in
    let number = read.1 in
    omega (arith, k, whole, number)

pub add_basin-requires-clause-few : goal.add_basin-requires-clause-few
add_basin-requires-clause-few g c =
    let parts = c.args.self.now.parts in
    let part = c.part-part.result in
    let at : slice_get parts c.args.tile ≡ Some part = ap (λ (p : Pool). slice_get p.parts c.args.tile) (sym c.self.view_is) ∙ c.part-part.ensures in
    let s : Spot = record { tile = c.args.tile; number = c.numbers.number } in
    let n = c.node.result in
    let named : node_named parts s ≡ Some n = ap (λ (o : Option Part). node_in o c.numbers.number) at ∙ c.node.ensures in
    let read = read-here parts c.args.roots.now c.requires.roots.firsts c.requires.roots.whole c.roots.inside.firsts.items c.roots.inside.numbers.items
    (ap (λ (r : Rooted). r.firsts) c.roots.view_is) (ap (λ (r : Rooted). r.numbers) c.roots.view_is) s n named c.index-first.result.now c.index-pit.result.now c.index-first.ensures
    c.index-pit.ensures in
    let has = c.requires.map in
    let k = (c.requires.roots.numbers (place_of_node parts s) n (spot-place parts s n named) has.map has.whole has.pool_of).inside in
    λ e is. gathered-few g.S.Side.NAME c.args.self.now c.args.roots.now c.requires.roots has.map has.whole has.pool_of (place_of_node parts s) n (spot-place parts s n named)
    c.index-pit.result.now (subst (λ i. i < length c.args.roots.now.pits) (sym read.1) k) c.numbers.extents.items (c.numbers.invariant has.map has.whole has.pool_of) e is

pub numbers-preserved : goal.numbers-preserved
numbers-preserved g c =
    let parts = c.args.self.now.parts in
    let part = c.part-part.result in
    let at : slice_get parts c.args.tile ≡ Some part = ap (λ (p : Pool). slice_get p.parts c.args.tile) (sym c.self.view_is) ∙ c.part-part.ensures in
    let s : Spot = record { tile = c.args.tile; number = c.numbers.number } in
    let n = c.node.result in
    let named : node_named parts s ≡ Some n = ap (λ (o : Option Part). node_in o c.numbers.number) at ∙ c.node.ensures in
    let read = read-here parts c.args.roots.now c.requires.roots.firsts c.requires.roots.whole c.roots.inside.firsts.items c.roots.inside.numbers.items
    (ap (λ (r : Rooted). r.firsts) c.roots.view_is) (ap (λ (r : Rooted). r.numbers) c.roots.view_is) s n named c.index-first.result.now c.index-pit.result.now c.index-first.ensures
    c.index-pit.ensures in
    let next : place_of_node parts s + 1 ≡ nodes_before parts c.args.tile + (c.numbers.number + 1) = omega arith in
    λ m whole of. subst (λ k. AreGathered m g.S.Side.NAME c.args.self.now.side c.args.roots.now.pits (take k (all_nodes parts)) c.add_basin.new.extents.items) next
    (gathered-step g.S.Side.NAME c.args.self.now c.args.roots.now c.requires.roots m whole of (place_of_node parts s) n (spot-place parts s n named)
    c.index-pit.result.now read.1 (pit_at c.pits-pits.result.now c.index-pit.result.now) (ap (λ (ps : List Rank). pit_at ps c.index-pit.result.now) c.pits-pits.ensures)
    c.numbers.extents.items c.add_basin.new.extents.items c.add_basin.ensures (c.numbers.invariant m whole of))

pub returns : goal.returns
returns g c =
    let parts = c.args.self.now.parts in
    let part = c.part-part.result in
    let at : slice_get parts c.args.tile ≡ Some part = ap (λ (p : Pool). slice_get p.parts c.args.tile) (sym c.self.view_is) ∙ c.part-part.ensures in
    let count = c.count-count.ensures in
    let past = c.numbers-test.false in
    let end = c.numbers.auto.number-end in
    let more = before-more parts c.args.tile part at in
    let same : nodes_before parts c.args.tile + c.numbers.number ≡ nodes_before parts (c.args.tile + 1) = omega (arith, count, past, end, more) in
    λ m whole of. subst (λ k. AreGathered m g.S.Side.NAME c.args.self.now.side c.args.roots.now.pits (take k (all_nodes parts)) c.numbers.extents.items) same (c.numbers.invariant m whole of)
