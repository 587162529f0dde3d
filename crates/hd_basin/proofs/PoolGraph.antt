-- The graph of the pool of a map: its basins, their lows and the passes between them.
use Rattle.std.proofs.Common.{◌≡◌, ◌≢◌, ℕ, true, false, List, [], ◌∷◌, map, Option, Some, None, inl, inr, refl, sym, ◌∙◌, ap, subst, cond, arith, slice_get}
use Rattle.std.specs.Prelude.{◌↔◌, Contains, AllPairs, MatchOption}
use Rattle.std.specs.List.{flat_map}
use Rattle.std.specs.Option.{is_none}
use Rattle.std.proofs.lemmas.List.Elements.{Contains-append_left, Contains-append_right, Contains-append_cases, All-tail, All-cons, All-nil}
use Rattle.hd_map.specs.declared.types.Pass.{Pass}
use Rattle.hd_map.specs.declared.types.Pos.{Pos}
use Rattle.hd_map.specs.declared.types.Rank.{Rank}
use Rattle.hd_map.specs.declared.types.SideName.{SideName}
use Rattle.hd_map.specs.Crossings.{AreCrossings}
use Rattle.hd_map.specs.Map.{Map, Present}
use Rattle.hd_map.specs.Order.{IsNotAbove}
use Rattle.hd_map.specs.Passes.{IsMeeting, IsPass}
use Rattle.hd_map.specs.Rank.{rank, IsPoint, Near, below_by}
use Rattle.hd_map.specs.Region.{IsPit}
use Rattle.hd_map.specs.SideLaws.{below_by-order}
use Rattle.hd_map.specs.Walks.{HasPass, AreJoinedWithin}
use Rattle.hd_map.proofs.Items.{Contains-map, map-Contains, Contains-head}
use Rattle.hd_map.proofs.Levels.{path-from_reach, same_or_not}
use Rattle.hd_map.proofs.Points.{same_index, Near-from}
use Rattle.hd_map.proofs.Saddles.{near-sym}
use Rattle.hd_map.proofs.Order.{not_above-refl, below-apart, below-not_above}
use Rattle.hd_graph.specs.declared.graph.Low.{Low}
use Rattle.hd_graph.specs.Basins.{AreBasins, AreLowsOf}
use Rattle.hd_graph.specs.Graph.{IsGraph, Net}
use Rattle.hd_graph.proofs.Basins.{basins-graph}
use Rattle.hd_map.proofs.Higher.{higher-sym, not_above-below}
use Rattle.hd_basin.specs.declared.node.Node.{Node}
use Rattle.hd_basin.specs.declared.part.Part.{Part}
use Rattle.hd_basin.specs.declared.part.Seam.{Seam}
use Rattle.hd_basin.specs.Basin.{AreNextsInside, IsSinkOf, IsLabel, FlowsTo, tile_at}
use Rattle.hd_basin.specs.InStep.{IsPoolOf, HasMap}
use Rattle.hd_basin.specs.Graph.{as_low, lows_in, in_order, was_seen_with, pass_of, passes_in}
use Rattle.hd_basin.specs.Parts.{inner_passes, Pool, HasNode, IsLinked, IsBetween, IsSound, label_of}
use Rattle.hd_basin.specs.Reading.{IsGraphOf}
use Rattle.hd_basin.proofs.FlatLists.{Contains-flat, flat-Contains, Contains-at, AllPairs-flat, AllPairs-map}
use Rattle.hd_basin.proofs.ListedOnce.{listed-once, live-part, live-pass}
use Rattle.hd_basin.proofs.PointRoots.{read-contains}
use Rattle.hd_basin.proofs.SinkLaws.{sink-unique, sink-own, sink-is_sink, sink-settles}
use Rattle.hd_basin.proofs.StaleCount.{seen_with}

-- the node of a pit says that it is one, and no other does
pit-flagged : (m : Map) (side : SideName) (s : Rank) (o : Option Pos) → MatchOption o (IsPit m side s) (FlowsTo m side s) → (is_none o ≡ true) ↔ IsPit m side s
pit-flagged m side s None pit = (λ e. pit, λ p. refl)
pit-flagged m side s (Some q) flows = (λ e. absurd cc, λ pit. absurd (pit.alone flows.to flows.is_next.lower))

-- a point that has a sink is one
nexts-point : (m : Map) (side : SideName) (t : ℕ) (x s : Rank) (xs : List Rank) → AreNextsInside m side t x xs s → IsPoint m x
nexts-point m side t x s [] h = h.1.point
nexts-point m side t x s (y ∷ ys) h = Near-from m x y h.0.lower.near

pub sink_of-point : (m : Map) (side : SideName) (t : ℕ) (x s : Rank) → IsSinkOf m side t x s → IsPoint m x
sink_of-point m side t x s h = nexts-point m side t x s h.0 h.1

-- a pass with its lower end first is one, and the only one that names these ends
order-between : (side : SideName) (p : Pass) → IsBetween p (in_order side p).a (in_order side p).b (in_order side p).at
order-between side p = elim (below_by side p.b p.a) as (λ v. IsBetween p (cond v (record { a = p.b; b = p.a; at = p.at }) p).a (cond v (record { a = p.b; b = p.a; at = p.at }) p).b
    (cond v (record { a = p.b; b = p.a; at = p.at }) p).at) [ true ↦ inr refl | false ↦ inl refl ]

order-low : (side : SideName) (p : Pass) → p.a ≢ p.b → below_by side (in_order side p).a (in_order side p).b ≡ true
order-low side p apart = elim (below_by side p.b p.a) as (λ v. below_by side p.b p.a ≡ v
    → below_by side (cond v (record { a = p.b; b = p.a; at = p.at }) p).a (cond v (record { a = p.b; b = p.a; at = p.at }) p).b ≡ true) [
      | true ↦ λ e. e
      | false ↦ λ e. not_above-below side p.a p.b e apart
    ] refl

order-of : (side : SideName) (p : Pass) (a b w : Rank) → below_by side a b ≡ true → IsBetween p a b w → in_order side p ≡ record { a = a; b = b; at = w }
order-of side p a b w low (inl e) = ap (in_order side) e ∙ rw (below-not_above (below_by side) (below_by-order side) a b low) refl
order-of side p a b w low (inr e) = ap (in_order side) e ∙ rw low refl

pass-live : (side : SideName) (parts : List Part) (s : Seam) (other : Part) → slice_get parts s.with ≡ Some other → other.seen ≡ Some s.stamp → Contains (pass_of side parts s) (in_order side s.pass)
pass-live side parts s other at seen =
    let e : was_seen_with (slice_get parts s.with) s.stamp ≡ true = ap (λ (o : Option Part). was_seen_with o s.stamp) at ∙ seen_with other.seen s.stamp seen in
    rw e (Contains-head (in_order side s.pass) [])

-- what links the basins of a pool is listed, with its lower end first
listed-linked : (side : SideName) (parts : List Part) (a b w : Rank) → below_by side a b ≡ true → IsLinked parts a b w
    → Contains (flat_map (passes_in side parts) parts) (record { a = a; b = b; at = w })
listed-linked side parts a b w low (inl i) =
    flat-Contains (passes_in side parts) parts i.tile i.part _ i.at
    (Contains-append_left (map (in_order side) (inner_passes i.part)) (flat_map (pass_of side parts) i.part.seams) _
    (subst (Contains (map (in_order side) (inner_passes i.part))) (order-of side i.pass a b w low i.between) (map-Contains (in_order side) (inner_passes i.part) i.pass i.has)))
listed-linked side parts a b w low (inr x) =
    flat-Contains (passes_in side parts) parts x.tile x.part _ x.at
    (Contains-append_right (map (in_order side) (inner_passes x.part)) (flat_map (pass_of side parts) x.part.seams) _
    (let k = Contains-at x.part.seams x.seam x.has in
    flat-Contains (pass_of side parts) x.part.seams k.0 x.seam _ k.1
    (subst (Contains (pass_of side parts x.seam)) (order-of side x.seam.pass a b w low x.between) (pass-live side parts x.seam x.other x.with_at x.since))))

-- and what is listed links two of them
linked-listed : (side : SideName) (parts : List Part) (p : Pass) → Contains (flat_map (passes_in side parts) parts) p → (q : Pass) × (p ≡ in_order side q) × IsLinked parts p.a p.b p.at
linked-listed side parts p h =
    let f = Contains-flat (passes_in side parts) parts p h in
    let part : Part = f.1 in
    elim (Contains-append_cases (map (in_order side) (inner_passes part)) (flat_map (pass_of side parts) part.seams) p f.3) [
      | inl inside ↦ (
          let r = Contains-map (in_order side) (inner_passes part) p inside in
          (r.0, sym r.2, inl (record { tile = f.0; part = part; pass = r.0; at = f.2; has = r.1; between = subst (λ (q : Pass). IsBetween r.0 q.a q.b q.at) r.2 (order-between side r.0) })))
      | inr across ↦ (
          let g = Contains-flat (pass_of side parts) part.seams p across in
          let s : Seam = g.1 in
          let l = live-pass side parts s p g.3 in
          let o = live-part (slice_get parts s.with) s.stamp l.1 in (
            s.pass,
            l.0,
            inr (record {
              tile = f.0;
              part = part;
              seam = s;
              other = o.0;
              at = f.2;
              has = read-contains part.seams g.0 s g.2;
              between = subst (λ
                  (q : Pass). IsBetween s.pass q.a q.b q.at) (sym l.0) (order-between side s.pass);
              with_at = o.1;
              since = o.2;
            }),
          ))
    ]

module _ (m : Map) (side : SideName) (pool : Pool) (of : IsPoolOf m side pool) where
  -- each point has a sink
  sink-label : (p : Pos) → Present m p → (l : Option Rank) → IsLabel m side pool.side p l → (s : Rank) × IsSinkOf m side pool.side (rank m p) s
  sink-label p present None absent = absurd (absent present)
  sink-label p present (Some s) l = (s, l.1)

  pub has_sink : (x : Rank) → IsPoint m x → (s : Rank) × IsSinkOf m side pool.side x s
  has_sink x point =
      let s = sink-label point.at point.present (label_of pool.size pool.side pool.parts point.at) (of.has.right.labels point.at point.present.in_grid tt) in
      (s.0, subst (λ (r : Rank). IsSinkOf m side pool.side r s.0) (sym point.rank_is) s.1)

  -- the local basins are basins
  pub pool-basins : AreBasins m side (IsSinkOf m side pool.side)
  pool-basins = record {
    some = has_sink;
    one = λ x a b xa xb. sink-unique m side pool.side x a b xa xb;
    settles = λ x a h.
        let p = path-from_reach (Near m) (below_by side) (below_by-order side) x (not_above-refl (below_by side) (below_by-order side) x)
        (sink-settles m side pool.side x x a (not_above-refl (below_by side) (below_by-order side) x) h) in
        (p.0, record { point = sink_of-point m side pool.side x a h; leads = p.1 }, All-tail (λ y. IsNotAbove (below_by side) y x) x p.0 p.2);
  }

  -- a low that is listed is that of a node
  low-node : (x : Low) → Contains (flat_map lows_in pool.parts) x → (tile : ℕ) × (n : Node) × HasNode pool.parts tile n × (as_low n ≡ x)
  low-node x h =
      let f = Contains-flat lows_in pool.parts x h in
      let part : Part = f.1 in
      let r = Contains-map as_low part.nodes x f.3 in
      (f.0, r.0, record { part = part; at = f.2; has = r.1 }, r.2)

  -- and each node has its own
  node-low : (tile : ℕ) (n : Node) → HasNode pool.parts tile n → Contains (flat_map lows_in pool.parts) (as_low n)
  node-low tile n h = flat-Contains lows_in pool.parts tile h.part (as_low n) h.at (map-Contains as_low h.part.nodes n h.has)

  pub pool-lows : AreLowsOf m side (IsSinkOf m side pool.side) (flat_map lows_in pool.parts)
  pool-lows = record {
    low = λ x at.
        let l = low-node x at in
        let s = (of.has.right.nodes l.0 l.1 tt l.2).0.sink in
        subst (λ (y : Low). IsSinkOf m side pool.side y.rank y.rank) l.3 (sink-own m side pool.side (l.1).low s);
    all = λ x a h.
        let n = of.has.right.sinks a tt (sink-is_sink m side pool.side x a h) in
        (as_low n.node, node-low _ n.node n.has, n.low);
    pit = λ x at.
        let l = low-node x at in
        let n = (of.has.right.nodes l.0 l.1 tt l.2).0 in
        subst (λ (y : Low). (y.pit ≡ true) ↔ IsPit m side y.rank) l.3 (pit-flagged m side (l.1).low (l.1).flows n.flows);
  }

  -- a node of a tile has its sink in it, and different nodes have different sinks
  pub node-tile : (tile : ℕ) (n : Node) → HasNode pool.parts tile n → tile_at m.size pool.side n.low ≡ tile
  node-tile tile n h = (let r = of.has.right.nodes tile n tt h in sym r.0.tile ∙ r.1)

  pub node-point : (tile : ℕ) (n : Node) → HasNode pool.parts tile n → IsPoint m n.low
  node-point tile n h = (of.has.right.nodes tile n tt h).0.sink.point

  pub lows-different : AllPairs (λ (x y : Low). x.rank.index ≢ y.rank.index) (flat_map lows_in pool.parts)
  lows-different = AllPairs-flat (λ (x y : Low). x.rank.index ≢ y.rank.index) lows_in pool.parts
      (λ k part at. AllPairs-map as_low (λ (n u : Node). n.low ≢ u.low) (λ (x y : Low). x.rank.index ≢ y.rank.index) part.nodes
      (λ n u at_n at_u apart same. apart (same_index m n.low u.low (node-point k n (record { part = part; at = at; has = at_n })) (node-point k u (record { part = part; at = at; has = at_u })) same))
      (of.has.once k part tt at))
      (λ j k part other less at at' x y hx hy same.
      let r = Contains-map as_low part.nodes x hx in
      let s = Contains-map as_low other.nodes y hy in
      let one : HasNode pool.parts j r.0 = record { part = part; at = at; has = r.1 } in
      let two : HasNode pool.parts k s.0 = record { part = other; at = at'; has = s.1 } in
      let index : (r.0).low.index ≡ (s.0).low.index = ap (λ (l : Low). l.rank.index) r.2 ∙ same ∙ ap (λ (l : Low). l.rank.index) (sym s.2) in
      let low = same_index m (r.0).low (s.0).low (node-point j r.0 one) (node-point k s.0 two) index in
      let tile : j ≡ k = sym (node-tile j r.0 one) ∙ ap (tile_at m.size pool.side) low ∙ node-tile k s.0 two in
      omega (arith, tile, less))

  -- each of the passes is that between its two basins
  pub pool-pass : (p : Pass) → Contains (flat_map (passes_in side pool.parts) pool.parts) p → IsPass m side (IsSinkOf m side pool.side) p
  pool-pass p h =
      let l = linked-listed side pool.parts p h in
      let b = of.has.right.passes p.a p.b p.at tt tt l.2 in
      record {
        ends = subst (λ (q : Pass). below_by side q.a q.b ≡ true) (sym l.1) (order-low side l.0 (ends_apart l.0 p l.1 b.apart));
        meeting = b.meeting;
        lowest = b.lowest;
      }
    where
      ends_apart : (q p : Pass) → p ≡ in_order side q → p.a ≢ p.b → q.a ≢ q.b
      ends_apart q p is apart same = elim (order-between side q) [
        | inl e ↦ apart (ap (λ (z : Pass). z.a) (is) ∙ sym (ap (λ (z : Pass). z.a) e) ∙ same ∙ ap (λ (z : Pass). z.b) e ∙ sym (ap (λ (z : Pass). z.b) is))
        | inr e ↦ apart (ap (λ (z : Pass). z.a) (is) ∙ sym (ap (λ (z : Pass). z.b) e) ∙ sym same ∙ ap (λ (z : Pass). z.a) e ∙ sym (ap (λ (z : Pass). z.b) is))
      ]

  pub pool-graph : IsSound pool → IsGraphOf m side pool.side (record { lows = flat_map lows_in pool.parts; passes = flat_map (passes_in side pool.parts) pool.parts })
  pool-graph sound = record {
    basins = pool-basins;
    lows = pool-lows;
    passes = record {
      each = pool-pass;
      all = λ a b w low meet.
          let l = of.has.right.meetings a b w tt tt (below-apart (below_by side) (below_by-order side) a b low) meet in
          (record { a = a; b = b; at = l.0 }, listed-linked side pool.parts a b l.0 low l.1, refl, refl);
      once = λ i j d less below. (listed-once side pool sound i j d less below).0;
    };
  }

-- such lows and passes are crossings
module _ (m : Map) (side : SideName) (t : ℕ) (net : Net) (is : IsGraphOf m side t net) where
  -- where two basins meet, a pass that is not above the meeting joins them
  joined_at : (a b w : Rank) → below_by side a b ≡ true → IsMeeting m side (IsSinkOf m side t) a b w → (u : Rank) × Contains net.passes (record { a = a; b = b; at = u })
      × IsNotAbove (below_by side) u w
  joined_at a b w low meet =
      let p = is.passes.all a b w low meet in
      let same : p.0 ≡ record { a = a; b = b; at = (p.0).at } = named p.0 p.2 p.3 in (
        (p.0).at,
        subst (λ (q : Pass). Contains net.passes q) same p.1,
        (is.passes.each p.0 p.1).lowest w
            (subst (λ v. IsMeeting m side (IsSinkOf m side t) v (p.0).b w) (sym p.2) (subst (λ v. IsMeeting m side (IsSinkOf m side t) a v w) (sym p.3) meet)),
      )
    where
      named : (q : Pass) → q.a ≡ a → q.b ≡ b → q ≡ record { a = a; b = b; at = q.at }
      named q e f = ap (λ v. record { a = v; b = q.b; at = q.at }) e ∙ ap (λ v. record { a = a; b = v; at = q.at }) f

  turned : (a b w : Rank) → IsMeeting m side (IsSinkOf m side t) a b w → IsMeeting m side (IsSinkOf m side t) b a w
  turned a b w h = record { from = h.to; to = h.from; near = near-sym m h.from h.to h.near; from_in = h.to_in; to_in = h.from_in; higher = h.higher ∙ higher-sym side h.from h.to }

  pub graph-crossings : AreCrossings m side (IsSinkOf m side t) net.passes
  graph-crossings = record {
    ends = λ p at. (is.passes.each p at).ends;
    meets = λ p at. (is.passes.each p at).meeting;
    enough = λ a b w meet. elim (same_or_not (below_by side) (below_by-order side) a b) [
      | inl e ↦ ([], e, All-nil (λ u. IsNotAbove (below_by side) u w))
      | inr apart ↦ elim (below_by side a b) as (λ v. below_by side a b ≡ v → AreJoinedWithin (below_by side) net.passes w a b) [
        | true ↦ λ e. (let p = joined_at a b w e meet in one_stride a b w p.0 (inl p.1) p.2)
        | false ↦ λ e. (let p = joined_at b a w (not_above-below side b a e (λ same. apart (sym same))) (turned a b w meet) in one_stride a b w p.0 (inr p.1) p.2)
      ] refl
    ];
  }
    where
      one_stride : (a b w u : Rank) → HasPass net.passes a b u → IsNotAbove (below_by side) u w → AreJoinedWithin (below_by side) net.passes w a b
      one_stride a b w u has low = (record { to = b; at = u } ∷ [], (has, refl), All-cons (λ v. IsNotAbove (below_by side) v w) u [] low (All-nil (λ v. IsNotAbove (below_by side) v w)))

-- the lists of a pool are a graph
pub pool-is_graph : (side : SideName) (pool : Pool) → IsSound pool → HasMap side pool → IsGraph (below_by side) (flat_map lows_in pool.parts) (flat_map (passes_in side pool.parts) pool.parts)
pool-is_graph side pool sound has =
    let net : Net = record { lows = flat_map lows_in pool.parts; passes = flat_map (passes_in side pool.parts) pool.parts } in
    let is = pool-graph has.map side pool has.pool_of sound in
    basins-graph has.map side (IsSinkOf has.map side pool.side) is.basins net.passes (graph-crossings has.map side pool.side net is) has.whole net.lows is.lows
    (lows-different has.map side pool has.pool_of)
