use Rattle.std.proofs.Common.{◌≡◌, ◌<◌, ◌++◌, ◌∷◌, [], ℕ, List, length, Bool, Option, Some, None, ℤ, set, slice_get, inl, inr, refl, sym, ◌∙◌, ap, subst, rules, arith}
use Rattle.std.specs.Prelude.{if◌then◌else◌}
use Rattle.std.proofs.lemmas.Option.{slice_get_read}
use Rattle.hd_map.specs.declared.types.Rank.{Rank}
use Rattle.hd_map.specs.declared.types.Size.{Size}
use Rattle.hd_map.specs.Map.{Map}
use Rattle.hd_map.specs.Rank.{rank}
use Rattle.hd_basin.specs.declared.node.Node.{Node}
use Rattle.hd_basin.specs.Adding.{AddsPoint}
use Rattle.hd_basin.specs.Sinks.{at_place, no_node}
use Rattle.hd_basin.specs.Parts.{place_in_tile}
use Rattle.hd_basin.proofs.AreLinks.{low-own}
use Rattle.hd_basin.proofs.gather.Gathered.count.Goals as goal

-- the height of a point that is an edge point
abbrev edge_height : Bool → Rank → Option ℤ
edge_height edge r = if edge then Some r.height else None

pub index_mut-requires-2 : goal.index_mut-requires-2
index_mut-requires-2 g c =
    let numbers : List ℕ = c.args.self.now.numbers.items in
    let home : c.args.home < length numbers = c.requires.inside in
    let at : slice_get numbers c.args.home ≡ Some c.index-number.result.now = slice_get_read numbers (length numbers) c.args.home c.index-number.result.now refl home c.index-number.ensures in
    let below = c.requires.known c.args.home c.index-number.result.now at c.if-number.false in
    omega (arith, below, c.args.self.now.nodes.ok.0)

pub add_point-requires : goal.add_point-requires
add_point-requires g c =
    let numbers : List ℕ = c.args.self.now.numbers.items in
    let nodes : List Node = c.args.self.now.nodes.items in
    let home : c.args.home < length numbers = c.requires.inside in
    let at : slice_get numbers c.args.home ≡ Some c.index-number.result.now = slice_get_read numbers (length numbers) c.args.home c.index-number.result.now refl home c.index-number.ensures in
    let below = c.requires.known c.args.home c.index-number.result.now at c.if-number.false in
    let node : slice_get nodes c.index-number.result.now ≡ Some c.index_mut-2.result.now = slice_get_read nodes
    (length nodes) c.index-number.result.now c.index_mut-2.result.now refl below c.index_mut-2.ensures.value in
    let small = c.requires.small c.index-number.result.now c.index_mut-2.result.now node in
    omega (arith, small)

pub returns-then-number-clause-counts : goal.returns-then-number-clause-counts
returns-then-number-clause-counts g c =
    let m : Map = g.G.Heights.map c.args.grid.now in
    let t : ℕ = c.args.plot.tiling.side in
    let numbers : List ℕ = c.args.self.now.numbers.items in
    let nodes : List Node = c.args.self.now.nodes.items in
    let home_is : c.args.home ≡ place_in_tile m.size t (at_place c.args.plot.area c.args.home) = c.requires.home
    ∙ ap (λ (s : Size). place_in_tile s t (at_place c.args.plot.area c.args.home)) c.requires.size in
    let home : c.args.home < length numbers = c.requires.inside in
    let at : slice_get numbers c.args.home ≡ Some c.index-number.result.now = slice_get_read numbers (length numbers) c.args.home c.index-number.result.now refl home c.index-number.ensures in
    let free : slice_get numbers (place_in_tile m.size t (at_place c.args.plot.area c.args.home)) ≡ Some no_node = ap (slice_get numbers) (sym home_is) ∙ at
    ∙ ap (λ (k : ℕ). Some k) c.if-number.true in
    let pushed : c.push.new.self.items ≡ nodes ++ c.first_node-node.result ∷ [] = c.in_ok-push.ensures.items in
    let count : c.len-number.result ≡ length nodes = search rules in
    let own-rank : c.rank_in-point.result ≡ rank m c.args.at = low-own m g.S.Side.NAME (g.met.G.Heights.whole c.args.grid.now) c.args.at c.rank_in-point.result c.rank_in-point.ensures c.requires.at in
    let n = c.first_node-node.ensures in
    inl (record {
      node = c.first_node-node.result;
      edge = c.is_edge-edge.result;
      free = free;
      nodes_are = pushed;
      numbers_are = ap (λ (k : ℕ). set numbers k c.len-number.result) home_is ∙ ap (set numbers (place_in_tile m.size t (at_place c.args.plot.area c.args.home))) count;
      label_is = count;
      low = n.low ∙ ap (rank m) c.position_in-sink.ensures.value;
      tile_is = n.tile;
      flows = n.flows;
      tells = record { on = c.is_edge-edge.ensures.edge; off = c.is_edge-edge.ensures.inner };
      points = n.points;
      high = n.high ∙ ap (λ (r : Rank). r.height) own-rank;
      least = n.least ∙ ap (λ (r : Rank). r.height) own-rank;
      edge_low = n.edge_low ∙ ap (edge_height c.is_edge-edge.result) own-rank;
      edge_high = n.edge_high ∙ ap (edge_height c.is_edge-edge.result) own-rank;
    })

pub returns-clause-counts : goal.returns-clause-counts
returns-clause-counts g c =
    let m : Map = g.G.Heights.map c.args.grid.now in
    let t : ℕ = c.args.plot.tiling.side in
    let numbers : List ℕ = c.args.self.now.numbers.items in
    let nodes : List Node = c.args.self.now.nodes.items in
    let label : ℕ = c.index-number.result.now in
    let home_is : c.args.home ≡ place_in_tile m.size t (at_place c.args.plot.area c.args.home) = c.requires.home
    ∙ ap (λ (s : Size). place_in_tile s t (at_place c.args.plot.area c.args.home)) c.requires.size in
    let home : c.args.home < length numbers = c.requires.inside in
    let at : slice_get numbers c.args.home ≡ Some label = slice_get_read numbers (length numbers) c.args.home label refl home c.index-number.ensures in
    let below = c.requires.known c.args.home label at c.if-number.false in
    let node : slice_get nodes label ≡ Some c.index_mut-2.result.now = slice_get_read nodes (length nodes) label c.index_mut-2.result.now refl below c.index_mut-2.ensures.value in
    let own-rank : c.rank_in-point.result ≡ rank m c.args.at = low-own m g.S.Side.NAME (g.met.G.Heights.whole c.args.grid.now) c.args.at c.rank_in-point.result c.rank_in-point.ensures c.requires.at in
    let adds : AddsPoint (rank m c.args.at).height c.is_edge-edge.result c.index_mut-2.result.now c.add_point.new.node = subst
    (λ (r : Rank). AddsPoint r.height c.is_edge-edge.result c.index_mut-2.result.now c.add_point.new.node) own-rank c.add_point.ensures in
    inr (record {
      old = c.index_mut-2.result.now;
      new = c.add_point.new.node;
      edge = c.is_edge-edge.result;
      number = ap (slice_get numbers) (sym home_is) ∙ at;
      taken = c.if-number.false;
      at = node;
      nodes_are = refl;
      numbers_are = refl;
      tells = record { on = c.is_edge-edge.ensures.edge; off = c.is_edge-edge.ensures.inner };
      adds = adds;
    })
