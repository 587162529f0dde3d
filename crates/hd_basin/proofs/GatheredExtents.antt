-- The regions of pits, gathered basin by basin.
use Rattle.std.proofs.Common.{◌≡◌, ◌<◌, ◌+◌, ◌++◌, ◌^◌, ◌∙◌, ℕ, List, [], ◌∷◌, length, get_or, map, replicate, take, Option, Some, None, inl, inr, refl, sym, ap, subst, arith, slice_get}
use Rattle.std.specs.Prelude.{◌↔◌, ◌≢◌, All, Contains, AllPairs, pos, slice_index, slice_index_or}
use Rattle.std.proofs.lemmas.Bool.{cases_eq, cases_lt}
use Rattle.std.proofs.lemmas.Grind.{get_or-set_at}
use Rattle.std.proofs.lemmas.List.{get_or-replicate, get_or-set_other, get_or_default, length-map, length-replicate, length-set, take_more}
use Rattle.std.proofs.lemmas.List.Elements.{Contains-append_left, Contains-append_right, Contains-append_cases}
use Rattle.std.proofs.lemmas.Option.{get_or_from_slice_get, same_Some, slice_get-get_or, slice_get_within}
use Rattle.hd_map.specs.declared.types.Rank.{Rank}
use Rattle.hd_map.specs.declared.types.SideName.{SideName}
use Rattle.hd_map.specs.Map.{Map, IsMap}
use Rattle.hd_map.specs.Rank.{IsPoint}
use Rattle.hd_map.specs.Region.{AreNexts, IsPit, IsRoot}
use Rattle.hd_map.proofs.Items.{Contains-none, Contains-head}
use Rattle.hd_map.proofs.Nexts.{root-unique, root-pit}
use Rattle.hd_map.proofs.Points.{Near-from}
use Rattle.hd_steep.specs.Crossings.{pit_at}
use Rattle.hd_basin.specs.declared.extent.Extent.{Extent}
use Rattle.hd_basin.specs.declared.node.Node.{Node}
use Rattle.hd_basin.specs.Basin.{IsNode, IsSinkOf, tile_at}
use Rattle.hd_map.specs.EdgePoint.{IsEdge}
use Rattle.hd_basin.specs.Extents.{AddsBasin, AreGathered, InBasins, IsExtentWith, IsGathered, nodes_in}
use Rattle.hd_basin.specs.InStep.{IsPoolOf}
use Rattle.hd_basin.specs.Parts.{Pool}
use Rattle.hd_basin.specs.Reading.{AreExtents, IsExtent}
use Rattle.hd_basin.specs.Roots.{AreRoots, Rooted, all_nodes}
use Rattle.hd_map.specs.Sums.{AreSums}
use Rattle.hd_basin.proofs.AreKnown.{all-apart}
use Rattle.hd_basin.proofs.AreListed.{only}
use Rattle.hd_basin.proofs.AreNumbered.{before-apart, get-map}
use Rattle.hd_basin.proofs.ExtentSums.{count-few, sums-both, sums-by}
use Rattle.hd_basin.proofs.FlatLists.{Contains-at, Contains-flat, flat-Contains, pair-at}
use Rattle.hd_basin.proofs.PointRoots.{read-contains}
use Rattle.hd_basin.proofs.PoolGraph.{has_sink, sink_of-point}
use Rattle.hd_basin.proofs.SinkLaws.{sink-is_sink, sink-root, sink-unique}
use Rattle.hd_basin.proofs.Sums.{Either}

-- a point that has a root is one
nexts-point : (m : Map) (side : SideName) (p r : Rank) (xs : List Rank) → AreNexts m side p xs r → IsPoint m p
nexts-point m side p r [] h = h.1.point
nexts-point m side p r (q ∷ qs) h = Near-from m p q h.0.lower.near

module _ (m : Map) (side : SideName) (t : ℕ) where
  -- the basins of some nodes and of one more, in the region of that one's pit
  basins-more : (nodes : List Node) (n : Node) (pit : Rank) → IsRoot m side n.low pit → (p : Rank) → Either (InBasins m side t nodes pit) (λ x. IsSinkOf m side t x n.low) p
      ↔ InBasins m side t (nodes ++ n ∷ []) pit p
  basins-more nodes n pit root p = (
    λ h. elim h [
      | inl old ↦ record { node = old.node; among = Contains-append_left nodes (n ∷ []) old.node old.among; root = old.root; sink = old.sink }
      | inr new ↦ record { node = n; among = Contains-append_right nodes (n ∷ []) n (Contains-head n []); root = root; sink = new }
    ],
    λ h. elim (Contains-append_cases nodes (n ∷ []) h.node h.among) [
      | inl old ↦ inl (record { node = h.node; among = old; root = h.root; sink = h.sink })
      | inr new ↦ inr (subst (λ (u : Node). IsSinkOf m side t p u.low) (only n h.node new) h.sink)
    ],
  )

  -- and in other regions
  basins-other : (nodes : List Node) (n : Node) (pit : Rank) → (IsRoot m side n.low pit → ⊥) → (p : Rank) → InBasins m side t nodes pit p ↔ InBasins m side t (nodes ++ n ∷ []) pit p
  basins-other nodes n pit other p = (
    λ old. record { node = old.node; among = Contains-append_left nodes (n ∷ []) old.node old.among; root = old.root; sink = old.sink },
    λ h. elim (Contains-append_cases nodes (n ∷ []) h.node h.among) [
      | inl old ↦ record { node = h.node; among = old; root = h.root; sink = h.sink }
      | inr new ↦ absurd (other (subst (λ (u : Node). IsRoot m side u.low pit) (only n h.node new) h.root))
    ],
  )

  -- one more basin is gathered
  module _ (nodes : List Node) (n : Node) (is : IsNode m side t n) (fresh : (u : Node) → Contains nodes u → u.low ≢ n.low) (pit : Rank) (root : IsRoot m side n.low pit) where
    pit-gathered : (o : Option Extent) (e : Extent) → IsExtentWith o pit n e → IsGathered m side t nodes pit o → IsGathered m side t (nodes ++ n ∷ []) pit (Some e)
    pit-gathered None e with none = subst (λ (x : Extent). IsGathered m side t (nodes ++ n ∷ []) pit (Some x)) (sym with) (
      refl,
      sums-by (λ x. IsSinkOf m side t x n.low) (InBasins m side t (nodes ++ n ∷ []) pit) (IsEdge m) (λ p. (
        λ s. (basins-more nodes n pit root p).0 (inr s),
        λ h. elim ((basins-more nodes n pit root p).1 h) [ inl old ↦ absurd (none old.node old.among old.root) | inr s ↦ s ],
      )) n.points n.high n.least n.edge_low n.edge_high is.sums,
    )
    pit-gathered (Some o) e with old = (
      with.pit ∙ old.0,
      sums-by (Either (InBasins m side t nodes pit) (λ x. IsSinkOf m side t x n.low)) (InBasins m side t (nodes ++ n ∷ []) pit) (IsEdge m)
          (basins-more nodes n pit root) e.points e.high e.least e.edge_low e.edge_high
          (sums-both (InBasins m side t nodes pit) (λ x. IsSinkOf m side t x n.low) (IsEdge m)
          (λ p a b. fresh a.node a.among (sink-unique m side t p a.node.low n.low a.sink b)) o e n with old.1 is.sums),
    )

    other-gathered : (other : Rank) (o : Option Extent) → (other ≡ pit → ⊥) → IsGathered m side t nodes other o → IsGathered m side t (nodes ++ n ∷ []) other o
    other-gathered other None apart none = λ u at ur. elim (Contains-append_cases nodes (n ∷ []) u at) [
      | inl old ↦ none u old ur
      | inr new ↦ apart (root-unique m side n.low other pit (subst (λ (v : Node). IsRoot m side v.low other) (only n u new) ur) root)
    ]
    other-gathered other (Some e) apart old = (
      old.0,
      sums-by (InBasins m side t nodes other) (InBasins m side t (nodes ++ n ∷ []) other) (IsEdge m)
          (basins-other nodes n other (λ r. apart (root-unique m side n.low other pit r root))) e.points e.high e.least e.edge_low e.edge_high old.1,
    )

    gathered-more : (pits : List Rank) → AllPairs (λ a b. a.index < b.index) pits → (number : ℕ) → slice_get pits number ≡ Some pit → (old new : List (Option Extent)) → AddsBasin old new number pit n
        → AreGathered m side t pits nodes old → AreGathered m side t pits (nodes ++ n ∷ []) new
    gathered-more pits in_order number named old new adds before =
        let inside : number < length old = subst (λ k. number < k) (sym before.whole) (slice_get_within pits number pit named) in
        let whole : length new ≡ length pits = ap length adds.is ∙ length-set old number (Some adds.extent) ∙ before.whole in
        record {
          whole = whole;
          each = λ k p at. elim (cases_eq k number) [
            | inl same ↦ (
                let one : p ≡ pit = same_Some p pit (sym at ∙ ap (slice_get pits) same ∙ named) in
                let read : slice_index_or new k None ≡ Some adds.extent =
                ap (λ (es : List (Option Extent)). slice_index_or es k None) adds.is ∙ get_or-set_at old number k (Some adds.extent) None same inside in
                subst (λ (r : Rank). IsGathered m side t (nodes ++ n ∷ []) r (slice_index_or new k None)) (sym one)
                (subst (IsGathered m side t (nodes ++ n ∷ []) pit) (sym read) (pit-gathered (slice_index_or old number None) adds.extent adds.with (before.each number pit named))))
            | inr apart ↦ (
                let read : slice_index_or new k None ≡ slice_index_or old k None =
                ap (λ (es : List (Option Extent)). slice_index_or es k None) adds.is ∙ get_or-set_other old number k (Some adds.extent) None apart in
                subst (IsGathered m side t (nodes ++ n ∷ []) p) (sym read)
                (other-gathered p (slice_index_or old k None) (λ same. apart-pits pits in_order k number p apart at (named ∙ ap (λ (r : Rank). Some r) (sym same))) (before.each k p at)))
          ];
        }
      where
        apart-pits : (ps : List Rank) → AllPairs (λ a b. a.index < b.index) ps → (i j : ℕ) (p : Rank) → i ≢ j → slice_get ps i ≡ Some p → slice_get ps j ≡ Some p → ⊥
        apart-pits ps pairs i j p ne at there = elim (cases_lt i j) [
          | inl less ↦ (let h = pair-at (λ (a : Rank) (b : Rank). a.index < b.index) ps pairs i j p p less at there in omega (arith, h))
          | inr late ↦ (let h = pair-at (λ (a : Rank) (b : Rank). a.index < b.index) ps pairs j i p p (omega (arith, late, ne)) there at in omega (arith, h))
        ]

-- nothing is gathered of no basins
pub gathered-none : (m : Map) (side : SideName) (t : ℕ) (pits : List Rank) (n : ℕ) → n ≡ length pits → AreGathered m side t pits [] (replicate n None)
gathered-none m side t pits n count = record {
  whole = length-replicate n None ∙ count;
  each = λ number pit at. subst (IsGathered m side t [] pit) (sym (get_or-replicate n number None None (subst (λ k. number < k) (sym count) (slice_get_within pits number pit at))))
      (λ u has root. Contains-none u has);
}

module _ (side : SideName) (pool : Pool) (roots : Rooted) (are : AreRoots side pool roots) where
  abbrev nodes : List Node
  nodes = all_nodes pool.parts

  module _ (m : Map) (whole : IsMap m) (of : IsPoolOf m side pool) where
    node-is : (n : Node) → Contains nodes n → IsNode m side pool.side n
    node-is n at =
        let f = Contains-flat nodes_in pool.parts n at in
        (of.has.right.nodes f.0 n tt (record { part = f.1; at = f.2; has = f.3 })).0

    nodes-different : AllPairs (λ (n u : Node). n.low ≢ u.low) nodes
    nodes-different i j d less below same = all-apart side pool (record { map = m; whole = whole; pool_of = of }) i j d less below (ap (λ (r : Rank). r.index) same)

    -- one node more is gathered
    pub gathered-step : (k : ℕ) (n : Node) → slice_get nodes k ≡ Some n → (number : ℕ) → number ≡ slice_index roots.numbers k → (pit : Rank) → pit ≡ pit_at roots.pits number
        → (old new : List (Option Extent)) → AddsBasin old new number pit n
        → AreGathered m side pool.side roots.pits (take k nodes) old → AreGathered m side pool.side roots.pits (take (k + 1) nodes) new
    gathered-step k n at number number_is pit pit_is old new adds before =
        let inside : k < length nodes = slice_get_within nodes k n at in
        let is = are.numbers k n at m whole of in
        let root : IsRoot m side n.low pit = subst (IsRoot m side n.low) (ap (pit_at roots.pits) (sym number_is) ∙ sym pit_is) is.root in
        let within : number < length roots.pits = subst (λ i. i < length roots.pits) (sym number_is) is.inside in
        let named : slice_get roots.pits number ≡ Some pit = slice_get-get_or roots.pits number (record { height = pos 0; index = 0 }) within ∙ ap (λ (r : Rank). Some r) (sym pit_is) in
        let one : take (k + 1) nodes ≡ take k nodes ++ n ∷ [] = take_more nodes k n inside ∙ ap (λ (u : Node). take k nodes ++ u ∷ []) (get_or_from_slice_get nodes k n n at) in
        subst (λ (ns : List Node). AreGathered m side pool.side roots.pits ns new) (sym one)
        (gathered-more m side pool.side (take k nodes) n (node-is n (read-contains nodes k n at))
        (λ u has. subst (λ (v : Node). u.low ≢ v.low) (get_or_from_slice_get nodes k n n at) (before-apart (λ (v : Node) (w : Node). v.low ≢ w.low) nodes k n inside nodes-different u has))
        pit root roots.pits (are.pits m whole of).in_order number named old new adds before)

    -- a region has few points
    pub gathered-few : (k : ℕ) (n : Node) → slice_get nodes k ≡ Some n → (number : ℕ) → number < length roots.pits → (extents : List (Option Extent))
        → AreGathered m side pool.side roots.pits (take k nodes) extents
        → (e : Extent) → slice_index_or extents number None ≡ Some e → e.points + n.points < 2 ^ 64
    gathered-few k n at number inside extents gathered e is =
        let none : Rank = record { height = pos 0; index = 0 } in
        let pit : Rank = get_or roots.pits number none in
        let g = subst (IsGathered m side pool.side (take k nodes) pit) is (gathered.each number pit (slice_get-get_or roots.pits number none inside)) in
        let one = count-few m (InBasins m side pool.side (take k nodes) pit) e.points whole (λ r h. sink_of-point m side pool.side r h.node.low h.sink) g.1.counted in
        let other = count-few m (λ r. IsSinkOf m side pool.side r n.low) n.points whole (λ r h. sink_of-point m side pool.side r n.low h) (node-is n (read-contains nodes k n at)).sums.counted in
        omega (arith, one, other)

    -- the node of a point's sink, among all
    sunk : (p : Rank) → IsPoint m p → (n : Node) × Contains nodes n × IsSinkOf m side pool.side p n.low
    sunk p point =
        let s = has_sink m side pool of p point in
        let h = of.has.right.sinks s.0 tt (sink-is_sink m side pool.side p s.0 s.1) in
        (h.node, flat-Contains nodes_in pool.parts (tile_at m.size pool.side s.0) h.has.part h.node h.has.at h.has.has, subst (λ (r : Rank). IsSinkOf m side pool.side p r) (sym h.low) s.1)

    -- all basins of a region are the region
    basins-all : (pit p : Rank) → InBasins m side pool.side nodes pit p ↔ IsRoot m side p pit
    basins-all pit p = (
      λ h. (sink-root m side pool.side p h.node.low pit h.sink).1 h.root,
      λ root.
          let s = sunk p (nexts-point m side p pit root.0 root.1) in
          record { node = s.0; among = s.1; root = (sink-root m side pool.side p (s.0).low pit s.2).0 root; sink = s.2 },
    )

    -- the extents of all nodes are those of the regions
    module _ (extents : List (Option Extent)) (gathered : AreGathered m side pool.side roots.pits nodes extents) where
      -- each region has one
      known : (number : ℕ) (pit : Rank) → slice_get roots.pits number ≡ Some pit → slice_index_or extents number None ≢ None
      known number pit at none =
          let is_pit = ((are.pits m whole of).exactly pit).0 (read-contains roots.pits number pit at) in
          let s = sunk pit is_pit.point in
          subst (IsGathered m side pool.side nodes pit) none (gathered.each number pit at) s.0 s.1 ((sink-root m side pool.side pit (s.0).low pit s.2).0 (root-pit m side pit is_pit))

      pub all-known : All (λ e. e ≢ None) extents
      all-known k d inside none =
          let inside' : k < length roots.pits = subst (λ n. k < n) gathered.whole inside in
          let r : Rank = record { height = pos 0; index = 0 } in
          known k (get_or roots.pits k r) (slice_get-get_or roots.pits k r inside') (get_or_default extents k None d inside ∙ none)

      module _ (list : List Extent) (listed : map Some list ≡ extents) where
        long : length list ≡ length roots.pits
        long = sym (length-map list Some) ∙ ap length listed ∙ gathered.whole

        -- the extent at a place of the list
        extent-at : (k : ℕ) (e : Extent) → slice_get list k ≡ Some e → (pit : Rank) × (slice_get roots.pits k ≡ Some pit) × IsGathered m side pool.side nodes pit (Some e)
        extent-at k e at =
            let inside : k < length roots.pits = subst (λ n. k < n) long (slice_get_within list k e at) in
            let r : Rank = record { height = pos 0; index = 0 } in
            let pit : Rank = get_or roots.pits k r in
            let named = slice_get-get_or roots.pits k r inside in
            let read : slice_index_or extents k None ≡ Some e =
            ap (λ (es : List (Option Extent)). slice_index_or es k None) (sym listed) ∙ get_or_from_slice_get (map Some list) k (Some e) None (get-map Some list k e at) in
            (pit, named, subst (IsGathered m side pool.side nodes pit) read (gathered.each k pit named))

        each-extent : (e : Extent) → Contains list e → IsExtent m side e
        each-extent e at =
            let k = Contains-at list e at in
            let g = extent-at k.0 e k.1 in
            let is_pit : IsPit m side g.0 = ((are.pits m whole of).exactly g.0).0 (read-contains roots.pits k.0 g.0 g.1) in
            let own : IsExtent m side e = record {
              is_pit = subst (IsPit m side) (sym g.2.0) is_pit;
              sums = subst (λ (r : Rank). AreSums (λ p. IsRoot m side p r) (IsEdge m) e.points e.high e.least e.edge_low e.edge_high) (sym g.2.0)
                  (sums-by (InBasins m side pool.side nodes g.0) (λ p. IsRoot m side p g.0) (IsEdge m) (basins-all g.0) _ _ _ _ _ g.2.1);
            } in
            own

        of-pit : (p : Rank) → IsPit m side p → (e : Extent) × Contains list e × (e.pit ≡ p)
        of-pit p pit =
            let k = Contains-at roots.pits p (((are.pits m whole of).exactly p).1 pit) in
            let inside : k.0 < length list = subst (λ n. k.0 < n) (sym long) (slice_get_within roots.pits k.0 p k.1) in
            let e = item list k.0 inside in
            let g = extent-at k.0 e.0 e.1 in
            (e.0, read-contains list k.0 e.0 e.1, g.2.0 ∙ same_Some g.0 p (sym g.1 ∙ k.1))
          where
            item : (es : List Extent) (i : ℕ) → i < length es → (e : Extent) × (slice_get es i ≡ Some e)
            item [] i below = absurd (omega arith)
            item (e ∷ es) i below = (get_or (e ∷ es) i e, slice_get-get_or (e ∷ es) i e below)

        pub extents-right : AreExtents m side list
        extents-right = record {
          each = each-extent;
          all = of-pit;
          in_order = λ i j d less below. (
              let first = extent-at i (get_or list i d) (slice_get-get_or list i d (omega (arith, less, below))) in
              let second = extent-at j (get_or list j d) (slice_get-get_or list j d below) in
              subst (λ (r : Rank). r.index < (get_or list j d).pit.index) (sym first.2.0) (subst (λ (r : Rank). first.0.index < r.index) (sym second.2.0)
              (pair-at (λ (a : Rank) (b : Rank). a.index < b.index) roots.pits (are.pits m whole of).in_order i j first.0 second.0 less first.1 second.1)));
        }
