-- Numbers of pits become known, node by node.
use Rattle.std.proofs.Common.{◌≡◌, ◌≢◌, ◌<◌, ◌+◌, ◌^◌, ◌++◌, ◌∙◌, ◌⊎◌, ℕ, List, [], ◌∷◌, length, get_or, set, take, Option, Some, None, inl, inr, refl, sym, ap, subst, arith, slice_get}
use Rattle.std.specs.Prelude.{AllPairs, Contains, MatchOption, pos, slice_index}
use Rattle.std.proofs.lemmas.Bool.{cases_eq, cases_lt}
use Rattle.std.proofs.lemmas.Grind.{get_or-set_at, get_or_default_zero}
use Rattle.std.proofs.lemmas.List.{get_or-set_other, length-set, take_more}
use Rattle.std.proofs.lemmas.List.Elements.{Contains-append_cases, Contains-append_left, Contains-append_right}
use Rattle.std.proofs.lemmas.Option.{get_or_from_slice_get, slice_get-get_or, slice_get_within}
use Rattle.hd_map.specs.declared.types.Pos.{Pos}
use Rattle.hd_map.specs.declared.types.Rank.{Rank}
use Rattle.hd_map.specs.declared.types.SideName.{SideName}
use Rattle.hd_map.specs.Map.{Map, IsMap, InGrid}
use Rattle.hd_map.specs.Pruning.{ArePits}
use Rattle.hd_map.specs.Region.{IsPit, IsRoot}
use Rattle.hd_map.proofs.Depth.{depth_by, point_limits}
use Rattle.hd_map.proofs.Items.{Contains-head, Contains-none}
use Rattle.hd_map.proofs.Points.{same_index}
use Rattle.hd_steep.specs.Crossings.{IsNumberOf, pit_at}
use Rattle.hd_basin.specs.declared.node.Node.{Node}
use Rattle.hd_basin.specs.declared.part.Part.{Part}
use Rattle.hd_basin.specs.declared.spot.Spot.{Spot}
use Rattle.hd_basin.specs.Basin.{FlowsTo, tile_at}
use Rattle.hd_basin.specs.Between.{LiesIn}
use Rattle.hd_basin.specs.Extents.{nodes_in}
use Rattle.hd_basin.specs.InStep.{HasMap, IsPoolOf}
use Rattle.hd_basin.specs.Known.{AreKnown, AreKnownTo, AreNoted, FlowsOn, KeepsKnown, LeadTo}
use Rattle.hd_basin.specs.Parts.{HasNode, Pool, low_or_none, node_of}
use Rattle.hd_basin.specs.Placed.{AreNumberedPits, unknown}
use Rattle.hd_basin.specs.Roots.{AreFirsts, AreRoots, IsPitNumber, Rooted, all_nodes}
use Rattle.hd_basin.specs.Spots.{IsSpot, node_in, node_named, place_of_node}
use Rattle.hd_basin.proofs.AreListed.{only}
use Rattle.hd_basin.proofs.FlatLists.{AllPairs-flat, Contains-at}
use Rattle.hd_basin.proofs.Flowing.{flows-root_step}
use Rattle.hd_basin.proofs.NodeRoots.{onward-inside, root-here}
use Rattle.hd_basin.proofs.PointRoots.{read-contains, way-into, way-own, way-smaller}
use Rattle.hd_basin.proofs.PoolGraph.{node-point, node-tile}
use Rattle.hd_basin.proofs.SinkLaws.{pit-sink}
use Rattle.hd_basin.proofs.Spotted.{all-listed, named-of, place-had, spot-had, spot-inside, spot-place, spot-read}

pub noted-none : (number : ℕ) (old : List ℕ) → AreNoted [] number old old
noted-none number old = record { whole = refl; each = λ place at. absurd (Contains-none place at); either = λ place. inr refl }

-- the number is written at one place more
pub noted-more : (places : List ℕ) (k d number : ℕ) (old new : List ℕ) → k < length places → get_or places k d < length old → AreNoted (take k places) number old new
    → AreNoted (take (k + 1) places) number old (set new (get_or places k d) number)
noted-more places k d number old new inside within so_far =
    let p : ℕ = get_or places k d in
    let here : p < length new = subst (λ n. p < n) (sym so_far.whole) within in
    subst (λ (ps : List ℕ). AreNoted ps number old (set new p number)) (sym (take_more places k d inside)) (record {
      whole = length-set new p number ∙ so_far.whole;
      each = λ place at. elim (cases_eq place p) [
        | inl same ↦ get_or-set_at new p place number 0 same here
        | inr other ↦ get_or-set_other new p place number 0 other ∙ elim (Contains-append_cases (take k places) (p ∷ []) place at) [
          | inl before ↦ so_far.each place before
          | inr last ↦ absurd (other (only p place last))
        ]
      ];
      either = λ place. elim (cases_eq place p) [
        | inl same ↦ inl (Contains-append_right (take k places) (p ∷ []) place (subst (Contains (p ∷ [])) (sym same) (Contains-head p [])))
        | inr other ↦ elim (so_far.either place) [
          | inl before ↦ inl (Contains-append_left (take k places) (p ∷ []) place before)
          | inr stays ↦ inr (get_or-set_other new p place number 0 other ∙ stays)
        ]
      ];
    })

module _ (places : List ℕ) (number : ℕ) (old new : List ℕ) (noted : AreNoted places number old new) (known : number ≢ unknown) where
  -- what was known is known
  pub noted-keeps : KeepsKnown old new
  noted-keeps place was e = elim (noted.either place) [
    | inl at ↦ known (sym (noted.each place at) ∙ e)
    | inr stays ↦ was (sym stays ∙ e)
  ]

  pub noted-there : (place : ℕ) → Contains places place → slice_index new place ≢ unknown
  noted-there place at e = known (sym (noted.each place at) ∙ e)

  pub noted-known : (side : SideName) (pool : Pool) (pits : List Rank) (firsts : List ℕ) → LeadTo side pool pits number places
      → AreKnown side pool (record { pits = pits; firsts = firsts; numbers = old }) → AreKnown side pool (record { pits = pits; firsts = firsts; numbers = new })
  noted-known side pool pits firsts lead before = record {
    firsts = before.firsts;
    whole = noted.whole ∙ before.whole;
    pits = before.pits;
    each = λ place n at is. elim (noted.either place) [
      | inl here ↦ (
          let l = lead place here in
          subst (IsPitNumber side pool pits n) (sym (noted.each place here)) (subst (λ (u : Node). IsPitNumber side pool pits u number) (same-node place l.0 n l.1 at) l.2))
      | inr stays ↦ subst (IsPitNumber side pool pits n) (sym stays) (before.each place n at (λ e. is (stays ∙ e)))
    ];
    ends = λ place n at ends. noted-keeps place (before.ends place n at ends);
  }
    where
      same-node : (place : ℕ) (u v : Node) → slice_get (all_nodes pool.parts) place ≡ Some u → slice_get (all_nodes pool.parts) place ≡ Some v → u ≡ v
      same-node place u v a b = sym (get_or_from_slice_get (all_nodes pool.parts) place u u a) ∙ get_or_from_slice_get (all_nodes pool.parts) place v u b

-- a node that flows nowhere is a pit, and a pit flows nowhere
flows-none : (m : Map) (side : SideName) (s : Rank) (o : Option Pos) → MatchOption o (IsPit m side s) (FlowsTo m side s) → IsPit m side s → o ≡ None
flows-none m side s None h pit = refl
flows-none m side s (Some q) h pit = absurd (pit.alone h.to h.is_next.lower)

module _ (side : SideName) (pool : Pool) where
  -- the sinks of the nodes of a pool
  pub all-apart : HasMap side pool → AllPairs (λ (n u : Node). n.low.index ≢ u.low.index) (all_nodes pool.parts)
  all-apart has =
      let m = has.map in
      let of = has.pool_of in
      AllPairs-flat (λ (n : Node) (u : Node). n.low.index ≢ u.low.index) nodes_in pool.parts
      (λ k part at i j d less below same. (
      let n : Node = get_or part.nodes i d in
      let u : Node = get_or part.nodes j d in
      let early : i < length part.nodes = omega (arith, less, below) in
      let one : HasNode pool.parts k n = record { part = part; at = at; has = read-contains part.nodes i n (slice_get-get_or part.nodes i d early) } in
      let two : HasNode pool.parts k u = record { part = part; at = at; has = read-contains part.nodes j u (slice_get-get_or part.nodes j d below) } in
      of.has.once k part tt at i j d less below (same_index m n.low u.low (node-point m side pool of k n one) (node-point m side pool of k u two) same)))
      (λ j k part other less at at' n u hn hu same. (
      let one : HasNode pool.parts j n = record { part = part; at = at; has = hn } in
      let two : HasNode pool.parts k u = record { part = other; at = at'; has = hu } in
      let low = same_index m n.low u.low (node-point m side pool of j n one) (node-point m side pool of k u two) same in
      let tile : j ≡ k = sym (node-tile m side pool of j n one) ∙ ap (tile_at m.size pool.side) low ∙ node-tile m side pool of k u two in
      omega (arith, tile, less)))

  pub all-small : HasMap side pool → (n : Node) → Contains (all_nodes pool.parts) n → n.low.index < 2 ^ 31
  all-small has n at =
      let k = Contains-at (all_nodes pool.parts) n at in
      let h = place-had pool.parts k.0 n k.1 in
      let limit = (point_limits has.map n.low has.whole (node-point has.map side pool has.pool_of h.0 n h.1)).index in
      omega (arith, limit)

  module _ (roots : Rooted) (are : AreNumberedPits pool.parts roots) where
    pits-right : (m : Map) → IsMap m → IsPoolOf m side pool → ArePits m side roots.pits
    pits-right m whole of = record {
      exactly = λ p. (
        λ at. (
            let r = are.each p at in
            let k = Contains-at (all_nodes pool.parts) r.0 r.1 in
            let h = place-had pool.parts k.0 r.0 k.1 in
            let is = (of.has.right.nodes h.0 r.0 tt h.1).0 in
            subst (IsPit m side) r.3 (subst (λ (o : Option Pos). MatchOption o (IsPit m side (r.0).low) (FlowsTo m side (r.0).low)) r.2 is.flows)),
        λ pit. (
            let h = of.has.right.sinks p tt (pit-sink m side pool.side p pit) in
            let is = (of.has.right.nodes (tile_at m.size pool.side p) h.node tt h.has).0 in
            let ends : h.node.flows ≡ None = flows-none m side h.node.low h.node.flows is.flows (subst (IsPit m side) (sym h.low) pit) in
            let k = Contains-at (all_nodes pool.parts) h.node (all-listed pool.parts (tile_at m.size pool.side p) h.node h.has) in
            subst (Contains roots.pits) h.low (read-contains roots.pits (slice_index roots.numbers k.0) h.node.low ((are.numbers k.0 h.node k.1).ends ends))),
      );
      in_order = are.in_order;
    }

    -- at first the numbers of the pits are known
    pub known-first : AreKnown side pool roots
    known-first = record {
      firsts = are.firsts;
      whole = are.whole;
      pits = pits-right;
      each = λ place n at known. number-known place n at known n.flows refl;
      ends = λ place n at ends e. (
          let k = slice_get_within roots.pits (slice_index roots.numbers place) n.low ((are.numbers place n at).ends ends) in
          let few = are.few in
          omega (arith, k, few, e));
    }
      where
        number-known : (place : ℕ) (n : Node) → slice_get (all_nodes pool.parts) place ≡ Some n → slice_index roots.numbers place ≢ unknown → (o : Option Pos) → n.flows ≡ o
            → IsPitNumber side pool roots.pits n (slice_index roots.numbers place)
        number-known place n at known (Some q) e = absurd (known ((are.numbers place n at).onward (λ none. (let x : Some q ≡ None = sym e ∙ none in absurd cc))))
        number-known place n at known None e = λ m whole of. (
            let k = slice_index roots.numbers place in
            let is = (are.numbers place n at).ends e in
            let h = place-had pool.parts place n at in
            let here : pit_at roots.pits k ≡ n.low = get_or_from_slice_get roots.pits k n.low (record { height = pos 0; index = 0 }) is in
            record { inside = slice_get_within roots.pits k n.low is; root = subst (IsRoot m side n.low) (sym here) (root-here side pool h.0 n h.1 e m of) })

  -- the way from one node to another, by what is listed of it
  pub record IsOnWay (pits : List Rank) (from here : Spot) (way : List ℕ) : Type 0 where
    pub node : Node
    pub at : node_named pool.parts here ≡ Some node
    pub lead : (place : ℕ) → Contains way place → (n : Node) × (slice_get (all_nodes pool.parts) place ≡ Some n)
        × ((number : ℕ) → IsPitNumber side pool pits node number → IsPitNumber side pool pits n number)
    pub begins : Contains way (place_of_node pool.parts from) ⊎ (here ≡ from)

  pub way-first : (pits : List Rank) (from : Spot) → IsSpot pool.parts from → IsOnWay pits from from []
  way-first pits from is = record { node = is.0; at = is.1; lead = λ place at. absurd (Contains-none place at); begins = inr refl }

  module _ (n v : Node) (s t : Spot) (has : HasMap side pool) (here : node_named pool.parts s ≡ Some n) (on : FlowsOn pool n t) (there : node_named pool.parts t ≡ Some v) where
    inside : InGrid pool.size on.at
    inside = onward-inside side pool s.tile n (spot-had pool.parts s n here) on.at on.flows has

    named : node_of pool.size pool.side pool.parts on.at ≡ Some v
    named = sym on.named ∙ there

    number-back : (pits : List Rank) (number : ℕ) → IsPitNumber side pool pits v number → IsPitNumber side pool pits n number
    number-back pits number is = λ m whole of. (
        let r = is m whole of in
        let into = way-into side pool _ n on.at (way-own side pool s.tile n (spot-had pool.parts s n here)) on.flows m whole of inside v named in
        record { inside = r.inside; root = flows-root_step m side pool.side n.low v.low (pit_at pits number) into r.root })

    pub falls : depth_by side v.low < depth_by side n.low
    falls = way-smaller side pool _ n on.at (way-own side pool s.tile n (spot-had pool.parts s n here)) on.flows has v inside named

    pub way-next : (pits : List Rank) (from : Spot) (way : List ℕ) (w : IsOnWay pits from s way) → w.node ≡ n → IsOnWay pits from t (way ++ place_of_node pool.parts s ∷ [])
    way-next pits from way w same = record {
      node = v;
      at = there;
      lead = λ place at. elim (Contains-append_cases way (place_of_node pool.parts s ∷ []) place at) [
        | inl before ↦ (
            let l = w.lead place before in
            (l.0, l.1, λ number is. l.2 number (subst (λ (u : Node). IsPitNumber side pool pits u number) (sym same) (number-back pits number is))))
        | inr last ↦ (n, ap (slice_get (all_nodes pool.parts)) (only (place_of_node pool.parts s) place last) ∙ spot-place pool.parts s n here, number-back pits)
      ];
      begins = elim w.begins [
        | inl before ↦ inl (Contains-append_left way (place_of_node pool.parts s ∷ []) (place_of_node pool.parts from) before)
        | inr first ↦ inl (Contains-append_right way (place_of_node pool.parts s ∷ []) (place_of_node pool.parts from)
            (subst (λ (z : Spot). Contains (place_of_node pool.parts s ∷ []) (place_of_node pool.parts z)) first (Contains-head (place_of_node pool.parts s) [])))
      ];
    }

  -- once all are known, they are the roots
  pub roots-known : (roots : Rooted) → AreKnown side pool roots → AreKnownTo roots.numbers (length (all_nodes pool.parts)) → AreRoots side pool roots
  roots-known roots known all = record {
    firsts = known.firsts;
    whole = known.whole;
    pits = known.pits;
    numbers = λ place n at. known.each place n at (all place (slice_get_within (all_nodes pool.parts) place n at));
  }

-- one number more is known
pub known-more : (old new : List ℕ) (k : ℕ) → AreKnownTo old k → KeepsKnown old new → slice_index new k ≢ unknown → AreKnownTo new (k + 1)
known-more old new k before kept here place below = elim (cases_lt place k) [
  | inl early ↦ kept place (before place early)
  | inr late ↦ (let same : place ≡ k = omega (arith, below, late) in λ e. here (ap (slice_index new) (sym same) ∙ e))
]

number-read : (numbers : List ℕ) (place k x : ℕ) → k ≡ place → place < length numbers → x ≡ get_or numbers k x → x ≡ slice_index numbers place
number-read numbers place k x same inside read = read ∙ ap (λ j. get_or numbers j x) same ∙ get_or_default_zero numbers place x inside

-- what is read for a node is its number
pub read-here : (parts : List Part) (roots : Rooted) → AreFirsts parts roots.firsts → length roots.numbers ≡ length (all_nodes parts) → (firsts numbers : List ℕ) → firsts ≡ roots.firsts
    → numbers ≡ roots.numbers
    → (s : Spot) (n : Node) → node_named parts s ≡ Some n → (x k : ℕ) → x ≡ get_or firsts s.tile x → k ≡ get_or numbers (x + s.number) k
    → (x + s.number ≡ place_of_node parts s) × (k ≡ slice_index roots.numbers (place_of_node parts s))
read-here parts roots are whole firsts numbers is_firsts is_numbers s n at x k first read =
    let place = spot-read parts roots.firsts are s n at x (subst (λ (fs : List ℕ). x ≡ get_or fs s.tile x) is_firsts first) in
    let inside = spot-inside parts s n at in (
      place,
      number-read roots.numbers (place_of_node parts s) (x + s.number) k place (subst (λ i. place_of_node parts s < i) (sym whole) inside)
          (subst (λ (ns : List ℕ). k ≡ get_or ns (x + s.number) k) is_numbers read),
    )

-- the number that is read for a node is that of the pit in whose region its sink lies
pub lies-in : (side : SideName) (pool : Pool) (roots : Rooted) → AreRoots side pool roots → (firsts numbers : List ℕ) → firsts ≡ roots.firsts → numbers ≡ roots.numbers
    → (tile number : ℕ) (part : Part) → slice_get pool.parts tile ≡ Some part → number < length part.nodes → (x k : ℕ) → x ≡ get_or firsts tile x → k ≡ get_or numbers (x + number) k
    → LiesIn side pool roots.pits (low_or_none (slice_get part.nodes number)) k
lies-in side pool roots are firsts numbers is_firsts is_numbers tile number part at below x k first read = λ m whole of. (
    let s : Spot = record { tile = tile; number = number } in
    let n = named-of pool.parts tile number part at below in
    let here : slice_get part.nodes number ≡ Some n.0 = ap (λ (o : Option Part). node_in o number) (sym at) ∙ n.1 in
    let r = read-here pool.parts roots are.firsts are.whole firsts numbers is_firsts is_numbers s n.0 n.1 x k first read in
    subst (λ (o : Option Node). IsNumberOf m side roots.pits (low_or_none o) k) (sym here)
    (subst (IsNumberOf m side roots.pits n.0.low) (sym r.1) (are.numbers (place_of_node pool.parts s) n.0 (spot-place pool.parts s n.0 n.1) m whole of)))

-- and it is read in the list
pub read-inside : (parts : List Part) (roots : Rooted) → AreFirsts parts roots.firsts → length roots.numbers ≡ length (all_nodes parts) → (firsts numbers : List ℕ) → firsts ≡ roots.firsts
    → numbers ≡ roots.numbers
    → (tile number : ℕ) (part : Part) → slice_get parts tile ≡ Some part → number < length part.nodes → (x : ℕ) → x ≡ get_or firsts tile x → x + number < length numbers
read-inside parts roots are whole firsts numbers is_firsts is_numbers tile number part at below x first =
    let s : Spot = record { tile = tile; number = number } in
    let n = named-of parts tile number part at below in
    let place = spot-read parts roots.firsts are s n.0 n.1 x (subst (λ (fs : List ℕ). x ≡ get_or fs tile x) is_firsts first) in
    let inside = spot-inside parts s n.0 n.1 in
    let long : length numbers ≡ length (all_nodes parts) = ap length is_numbers ∙ whole in
    omega (arith, place, inside, long)
