use Rattle.std.proofs.Common.{◌≡◌, ◌<◌, ◌∙◌, ℕ, Some, ap, ap₂, arith, length, rules, subst, sym}
use Rattle.std.proofs.lemmas.Option.{slice_get_within}
use Rattle.hd_map.specs.declared.types.Pos.{Pos}
use Rattle.hd_map.specs.declared.types.Rank.{Rank}
use Rattle.hd_map.specs.declared.types.Size.{Size}
use Rattle.hd_map.specs.Map.{cell_count, position_at}
use Rattle.hd_steep.specs.Crossings.{IsNumberOf}
use Rattle.hd_basin.specs.declared.node.Node.{Node}
use Rattle.hd_basin.specs.Parts.{IsSound, IsUnderKey, Pool, node_of}
use Rattle.hd_basin.specs.Roots.{AreFirsts, Rooted, all_nodes}
use Rattle.hd_basin.specs.Spots.{place_of_node}
use Rattle.hd_basin.proofs.AreKnown.{read-here}
use Rattle.hd_basin.proofs.Spotted.{spot-inside, spot-part, spot-place, spot-read}
use Rattle.hd_basin.proofs.basins.Basins.pit_number.Goals as goal

-- the node of a sink is that of its position
at-sink : (pool : Pool) (tile : ℕ) (n : Node) (sink : Rank) (s : Size) (p : Pos) → IsUnderKey pool tile n → n.low ≡ sink → s ≡ pool.size → p ≡ position_at s sink.index
    → node_of pool.size pool.side pool.parts p ≡ Some n
at-sink pool tile n sink s p key low size at = ap (node_of pool.size pool.side pool.parts) (at ∙ ap₂ position_at size (ap (λ (r : Rank). r.index) (sym low))) ∙ key.named

pub position_of-requires : goal.position_of-requires
position_of-requires g c =
    let size : c.size.result ≡ c.args.self.now.size = search rules in
    let sound = subst IsSound c.self.view_is c.self.invariant in
    let r = c.requires.sink in
    subst (λ (s : Size). c.args.sink.index < cell_count s) (sym size) (subst (λ (x : Rank). x.index < cell_count c.args.self.now.size) r.3 (sound.keyed r.0 r.1 r.2).in_grid)

pub index-requires : goal.index-requires
index-requires g c =
    let size : c.size.result ≡ c.args.self.now.size = search rules in
    let sound = subst IsSound c.self.view_is c.self.invariant in
    let r = c.requires.sink in
    let here = at-sink c.args.self.now r.0 r.1 c.args.sink c.size.result c.position_of.result (sound.keyed r.0 r.1 r.2) r.3 size c.position_of.ensures.value in
    let p = spot-part c.args.self.now.parts c.in-Some.spot r.1 (c.in-Some.ensures.1 ∙ here) in
    let inside = slice_get_within c.args.self.now.parts c.in-Some.spot.tile p.0 p.1 in
    let whole = c.requires.roots.firsts.whole in
    let same : length c.roots.inside.firsts.items ≡ length c.args.roots.now.firsts = ap (λ (x : Rooted). length x.firsts) c.roots.view_is in
    let count = c.roots.inside.firsts.ok.0 in
    omega (arith, inside, whole, same, count)

pub overflow_add-index : goal.overflow_add-index
overflow_add-index g c =
    let parts = c.args.self.now.parts in
    let size : c.size.result ≡ c.args.self.now.size = search rules in
    let sound = subst IsSound c.self.view_is c.self.invariant in
    let r = c.requires.sink in
    let here = at-sink c.args.self.now r.0 r.1 c.args.sink c.size.result c.position_of.result (sound.keyed r.0 r.1 r.2) r.3 size c.position_of.ensures.value in
    let named = c.in-Some.ensures.1 ∙ here in
    let firsts = subst (AreFirsts parts) (sym (ap (λ (x : Rooted). x.firsts) c.roots.view_is)) c.requires.roots.firsts in
    let place = spot-read parts c.roots.inside.firsts.items firsts c.in-Some.spot r.1 named c.index.result.now c.index.ensures in
    let inside = spot-inside parts c.in-Some.spot r.1 named in
    let long : length c.roots.inside.numbers.items ≡ length (all_nodes parts) = ap (λ (x : Rooted). length x.numbers) c.roots.view_is ∙ c.requires.roots.whole in
    let small = c.roots.inside.numbers.small in
    let whole = c.roots.inside.numbers.ok in
    omega (arith, place, inside, long, small, whole)

pub index-requires-in-Some : goal.index-requires-in-Some
index-requires-in-Some g c =
    let parts = c.args.self.now.parts in
    let size : c.size.result ≡ c.args.self.now.size = search rules in
    let sound = subst IsSound c.self.view_is c.self.invariant in
    let r = c.requires.sink in
    let here = at-sink c.args.self.now r.0 r.1 c.args.sink c.size.result c.position_of.result (sound.keyed r.0 r.1 r.2) r.3 size c.position_of.ensures.value in
    let named = c.in-Some.ensures.1 ∙ here in
    let firsts = subst (AreFirsts parts) (sym (ap (λ (x : Rooted). x.firsts) c.roots.view_is)) c.requires.roots.firsts in
    let place = spot-read parts c.roots.inside.firsts.items firsts c.in-Some.spot r.1 named c.index.result.now c.index.ensures in
    let inside = spot-inside parts c.in-Some.spot r.1 named in
    let long : length c.roots.inside.numbers.items ≡ length (all_nodes parts) = ap (λ (x : Rooted). length x.numbers) c.roots.view_is ∙ c.requires.roots.whole in
    let whole = c.roots.inside.numbers.ok.0 in
    omega (arith, place, inside, long, whole)

pub unreachable-requires : goal.unreachable-requires
unreachable-requires g c =
    let size : c.size.result ≡ c.args.self.now.size = search rules in
    let sound = subst IsSound c.self.view_is c.self.invariant in
    let r = c.requires.sink in
    let here = at-sink c.args.self.now r.0 r.1 c.args.sink c.size.result c.position_of.result (sound.keyed r.0 r.1 r.2) r.3 size c.position_of.ensures.value in
    let none = sym c.in-None.ensures ∙ here in
    absurd cc

pub returns : goal.returns
returns g c = λ m whole of. (
    let parts = c.args.self.now.parts in
    let pits = c.args.roots.now.pits in
    let size : c.size.result ≡ c.args.self.now.size = search rules in
    let sound = subst IsSound c.self.view_is c.self.invariant in
    let r = c.requires.sink in
    let here = at-sink c.args.self.now r.0 r.1 c.args.sink c.size.result c.position_of.result (sound.keyed r.0 r.1 r.2) r.3 size c.position_of.ensures.value in
    let named = c.in-Some.ensures.1 ∙ here in
    let read = read-here parts c.args.roots.now c.requires.roots.firsts c.requires.roots.whole c.roots.inside.firsts.items c.roots.inside.numbers.items
    (ap (λ (x : Rooted). x.firsts) c.roots.view_is) (ap (λ (x : Rooted). x.numbers) c.roots.view_is) c.in-Some.spot r.1 named c.index.result.now c.index-in-Some.result.now
    c.index.ensures c.index-in-Some.ensures in
    subst (λ (x : Rank). IsNumberOf m g.S.Side.NAME pits x c.index-in-Some.result.now) r.3
    (subst (IsNumberOf m g.S.Side.NAME pits r.1.low) (sym read.1) (c.requires.roots.numbers (place_of_node parts c.in-Some.spot) r.1 (spot-place parts c.in-Some.spot r.1 named) m whole of)))
