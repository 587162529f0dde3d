-- The nodes of a tile gather one more point.
use Rattle.std.proofs.Common.{◌≡◌, ◌≢◌, ◌<◌, ◌≤◌, ◌+◌, ◌*◌, ℕ, ℤ, ◌⊎◌, inl, inr, Bool, true, false, List, [], ◌∷◌, ◌++◌, length, get_or, set, Option}
use Rattle.std.proofs.Common.{Some, None, slice_get, refl, sym, ◌∙◌, ap, subst, arith}
use Rattle.std.specs.Prelude.{◌↔◌, MatchOption, if◌then◌else◌, slice_index_or}
use Rattle.std.proofs.Math.ListN.{length-set}
use Rattle.std.proofs.lemmas.Bool.{cases_lt, cases_eq}
use Rattle.std.proofs.lemmas.List.{get_or_append_left, get_or_push, length_push}
use Rattle.std.proofs.lemmas.Option.{same_Some, slice_get_within}
use Rattle.hd_map.specs.declared.types.Pos.{Pos}
use Rattle.hd_map.specs.declared.types.Rank.{Rank}
use Rattle.hd_map.specs.declared.types.SideName.{SideName}
use Rattle.hd_map.specs.Map.{Map, Present, position_at}
use Rattle.hd_map.specs.Rank.{rank}
use Rattle.hd_map.proofs.Points.{same_point, rank_position, position_at-of}
use Rattle.hd_tiles.specs.Tile.{tile_of}
use Rattle.hd_tiles.proofs.Stamping.{slice_get-set_same, slice_get-set_other}
use Rattle.hd_basin.specs.declared.frame.Frame.{Frame}
use Rattle.hd_basin.specs.declared.node.Node.{Node}
use Rattle.hd_basin.specs.Basin.{IsSink, IsSinkOf, FlowsTo, tile_at}
use Rattle.hd_map.specs.Region.{IsPit}
use Rattle.hd_map.specs.EdgePoint.{IsEdge}
use Rattle.hd_basin.specs.Frames.{InFrame}
use Rattle.hd_basin.specs.Gathering.{IsTaken, Gathers, home_of, IsGatheredNode, IsNamed, IsGathered, TellsEdge, StartsNode, AddsToNode}
use Rattle.hd_basin.specs.Parts.{place_in_tile}
use Rattle.hd_basin.specs.Sinks.{IsArea, at_place, no_node}
use Rattle.hd_map.specs.Sums.{EdgeMember, AreSums}
use Rattle.hd_basin.proofs.Areas.{area-in, area-one, area-tile, area-below, place-one, tile-of_point}
use Rattle.hd_basin.proofs.Frames.{step-in_frame, frame_step}
use Rattle.hd_basin.proofs.Lists.{get-push_left, get-push_last, get-push_cases}
use Rattle.hd_basin.proofs.Sums.{More, sums-more, count-one, greatest-one, least-one, sums-same}
use Rattle.hd_basin.proofs.SinkLaws.{sink-unique, sink-is_sink, sink-tile}

-- nothing is gathered from no points
pub gathered-none : (m : Map) (side : SideName) (t tile : ℕ) (f : Frame) (numbers : List ℕ) → length numbers ≡ f.columns * f.rows
    → ((j i : ℕ) → slice_get numbers j ≡ Some i → i ≡ no_node) → IsGathered m side t tile f 0 [] numbers []
gathered-none m side t tile f numbers count free = record {
  numbers_count = count;
  labels_count = refl;
  few = omega arith;
  nodes = λ i n at. absurd cc;
  homes = λ i n at. absurd cc;
  known = λ j i at taken. absurd (taken (free j i at));
  labels = λ j below. absurd (omega arith);
}

-- the sums of one point
sums-one : (m : Map) (r : Rank) (edge : Bool) (o : Option ℤ) → TellsEdge m r edge → o ≡ (if edge then Some r.height else None) → AreSums (λ x. x ≡ r) (IsEdge m) 1 r.height r.height o o
sums-one m r edge o tells e = subst (λ (p : Option ℤ). AreSums (λ x. x ≡ r) (IsEdge m) 1 r.height r.height p p) (sym e) (go edge tells)
  where
    go : (b : Bool) → TellsEdge m r b → AreSums (λ x. x ≡ r) (IsEdge m) 1 r.height r.height (if b then Some r.height else None) (if b then Some r.height else None)
    go true h = (
        let one : EdgeMember (λ x. x ≡ r) (IsEdge m) r = (refl, h.on refl) in
        record {
          counted = count-one r;
          highest = greatest-one r;
          lowest = least-one r;
          lowest_edge = record { of = r; member = one; height_is = refl; bound = λ x member. (least-one r).bound x member.0 };
          highest_edge = record { of = r; member = one; height_is = refl; bound = λ x member. (greatest-one r).bound x member.0 };
        })
    go false h = record {
      counted = count-one r;
      highest = greatest-one r;
      lowest = least-one r;
      lowest_edge = λ x member. h.off refl (subst (IsEdge m) member.0 member.1);
      highest_edge = λ x member. h.off refl (subst (IsEdge m) member.0 member.1);
    }

module _ (m : Map) (side : SideName) (t tile : ℕ) (f : Frame) (k : ℕ) (some : 1 ≤ t) (area : IsArea m.size t tile f) (below : k < f.columns * f.rows) where
  abbrev here : Pos
  here = at_place f k

  -- what is taken later is taken before, or at this place
  taken-more : (r : Rank) → IsTaken m f (k + 1) r → IsTaken m f k r ⊎ (Present m here × (r ≡ rank m here))
  taken-more r taken = elim (cases_lt taken.place k) [
    | inl before ↦ inl (record { place = taken.place; before = before; present = taken.present; rank_is = taken.rank_is })
    | inr last ↦ (
        let within = taken.before in
        let same : taken.place ≡ k = omega (arith, last, within) in
        inr (subst (λ (j : ℕ). Present m (at_place f j)) same taken.present, taken.rank_is ∙ ap (λ (j : ℕ). rank m (at_place f j)) same))
  ]

  taken-still : (r : Rank) → IsTaken m f k r → IsTaken m f (k + 1) r
  taken-still r taken = (let b = taken.before in record { place = taken.place; before = omega (arith, b); present = taken.present; rank_is = taken.rank_is })

  -- the point at this place was not taken
  not_taken : Present m here → IsTaken m f k (rank m here) → ⊥
  not_taken present taken =
      let same : here ≡ at_place f taken.place = same_point m here (at_place f taken.place) present taken.present taken.rank_is in
      let b = taken.before in
      let earlier : taken.place < f.columns * f.rows = omega (arith, b, below) in
      let one = frame_step f here (step-in_frame f k below) in
      let j : ℕ = taken.place in
      let e : k ≡ j = place-one f k j below earlier same in
      omega (arith, e, b)

  -- for another sink the same points are gathered
  same-other : (s : Rank) → (Present m here → IsSinkOf m side t (rank m here) s → ⊥) → (r : Rank) → Gathers m side t f k s r ↔ Gathers m side t f (k + 1) s r
  same-other s other r = (
    λ g. (taken-still r g.0, g.1),
    λ g. elim (taken-more r g.0) [
      | inl was ↦ (was, g.1)
      | inr new ↦ absurd (other new.0 (subst (λ (x : Rank). IsSinkOf m side t x s) new.1 g.1))
    ],
  )

  -- for its own sink the point is one more
  more-own : (s : Rank) → Present m here → IsSinkOf m side t (rank m here) s → (r : Rank) → (Gathers m side t f k s r ⊎ (r ≡ rank m here)) ↔ Gathers m side t f (k + 1) s r
  more-own s present of r = (
    λ g. elim g [
      | inl was ↦ (taken-still r was.0, was.1)
      | inr new ↦ (record { place = k; before = omega arith; present = present; rank_is = new }, subst (λ (x : Rank). IsSinkOf m side t x s) (sym new) of)
    ],
    λ g. elim (taken-more r g.0) [ inl was ↦ inl (was, g.1) | inr new ↦ inr new.1 ],
  )

  edges-same : (Member : Rank → Type 0) (r : Rank) → Member r → IsEdge m r ↔ IsEdge m r
  edges-same Member r member = (λ e. e, λ e. e)

  -- a node of another sink stays as it is
  node-other : (n : Node) → (Present m here → IsSinkOf m side t (rank m here) n.low → ⊥) → IsGatheredNode m side t tile f k n → IsGatheredNode m side t tile f (k + 1) n
  node-other n other g = (let low = g.few in record {
    sink = g.sink;
    in_tile = g.in_tile;
    tile_is = g.tile_is;
    flows = g.flows;
    sums = sums-same (Gathers m side t f k n.low) (Gathers m side t f (k + 1) n.low) (IsEdge m) (IsEdge m) (same-other n.low other)
        (edges-same (Gathers m side t f k n.low)) n.points n.high n.least n.edge_low n.edge_high g.sums;
    few = omega (arith, low);
  })

  module _ (bound : f.columns * f.rows ≤ no_node) (ns : List Node) (numbers ls : List ℕ) (g : IsGathered m side t tile f k ns numbers ls) where
    -- the labels with one more, where the nodes keep their sinks
    labels-more : (ns' : List Node) (label : ℕ) → ((l : ℕ) (n : Node) → slice_get ns l ≡ Some n → (u : Node) × (slice_get ns' l ≡ Some u) × (u.low ≡ n.low)) → IsNamed m side t ns' here label →
        (j : ℕ) → j < k + 1 → IsNamed m side t ns' (at_place f j) (slice_index_or (ls ++ label ∷ []) j no_node)
    labels-more ns' label grow new j under = elim (cases_lt j k) [
      | inl early ↦ (
          let old = g.labels j early in
          let count = g.labels_count in
          let inside : j < length ls = omega (arith, early, count) in
          subst (λ (l : ℕ). IsNamed m side t ns' (at_place f j) l) (sym (get_or_append_left ls (label ∷ []) no_node j inside))
          (record {
            there = λ present. (
                let n = old.there present in
                let u = grow (get_or ls j no_node) n.0 n.1 in
                (u.0, u.1, subst (λ (s : Rank). IsSinkOf m side t (rank m (at_place f j)) s) (sym u.2) n.2));
            none = old.none;
          }))
      | inr late ↦ (
          let count = g.labels_count in
          let same : k ≡ j = omega (arith, late, under) in
          let end : length ls ≡ j = omega (arith, count, same) in
          subst (λ (i : ℕ). IsNamed m side t ns' (at_place f i) (slice_index_or (ls ++ label ∷ []) j no_node)) same
          (subst (λ (l : ℕ). IsNamed m side t ns' here l) (sym (get_or_push ls label no_node j end)) new))
    ]

    labels-count : (label : ℕ) → length (ls ++ label ∷ []) ≡ k + 1
    labels-count label = (let n = length_push ls label in let count = g.labels_count in omega (arith, n, count))

    -- without a point nothing is gathered
    pub gathered-absent : (Present m here → ⊥) → IsGathered m side t tile f (k + 1) ns numbers (ls ++ no_node ∷ [])
    gathered-absent absent = record {
      numbers_count = g.numbers_count;
      labels_count = labels-count no_node;
      few = (let few = g.few in omega (arith, few));
      nodes = λ i n at. node-other n (λ present of. absent present) (g.nodes i n at);
      homes = g.homes;
      known = g.known;
      labels = labels-more ns no_node (λ l n at. (n, at, refl)) (record { there = λ present. absurd (absent present); none = λ none. refl });
    }

    module _ (q : Pos) (present : Present m here) (there : Present m q) (of : IsSinkOf m side t (rank m here) (rank m q)) where
      abbrev home : ℕ
      home = place_in_tile m.size t q

      in_frame : InFrame f here
      in_frame = step-in_frame f k below

      -- the sink lies in the tile
      sink_tile : tile_at m.size t (rank m q) ≡ tile
      sink_tile = sink-tile m side t (rank m here) (rank m q) of ∙ tile-of_point m t (rank m here) here present refl ∙ area-tile m.size t tile f some area here in_frame

      q_frame : InFrame f q
      q_frame = area-in m.size t tile f some area q there.in_grid (sym (tile-of_point m t (rank m q) q there refl) ∙ sink_tile)

      pub home-below : home < length numbers
      home-below = rw g.numbers_count (area-below m.size t tile f some area q q_frame)

      -- the place of its sink tells a node
      home-rank : (s : Rank) → s ≡ rank m q → home_of m t s ≡ home
      home-rank s e = ap (λ (r : Rank). home_of m t r) e ∙ ap (place_in_tile m.size t) (position_at-of m.size q there.in_grid)

      same-home : (i : ℕ) (n : Node) → slice_get ns i ≡ Some n → home_of m t n.low ≡ home → n.low ≡ rank m q
      same-home i n at e =
          let node = g.nodes i n at in
          let point = node.sink.point in
          let pos : position_at m.size n.low.index ≡ point.at = rank_position m n.low point.at point.present point.rank_is in
          let at_tile : tile_of m.size t point.at ≡ tile = sym (tile-of_point m t n.low point.at point.present point.rank_is) ∙ node.in_tile in
          let frame = area-in m.size t tile f some area point.at point.present.in_grid at_tile in
          let one : point.at ≡ q = area-one m.size t tile f some area point.at q frame q_frame (ap (place_in_tile m.size t) (sym pos) ∙ e) in
          point.rank_is ∙ ap (rank m) one

      -- a node whose basin has the point is that of its sink
      own-sink : (s : Rank) → IsSinkOf m side t (rank m here) s → s ≡ rank m q
      own-sink s other = sink-unique m side t (rank m here) s (rank m q) other of

      pub numbers-known : (j i : ℕ) → slice_get numbers j ≡ Some i → i ≢ no_node → i < length ns
      numbers-known j i at taken = (let n = g.known j i at taken in slice_get_within ns i n.0 n.1)

      -- the point is counted by the node of its sink
      module _ (ns' : List Node) (numbers' : List ℕ) (label : ℕ) (a : AddsToNode m t here q ns ns' numbers numbers' label) where
        same_low : a.new.low ≡ a.old.low
        same_low = a.adds.low

        old_low : a.old.low ≡ rank m q
        old_low =
            let n = g.known home label a.number a.taken in
            let same : n.0 ≡ a.old = same_Some n.0 a.old (sym n.1 ∙ a.at) in
            same-home label a.old a.at (ap (λ (x : Node). home_of m t x.low) (sym same) ∙ n.2)

        inside : label < length ns
        inside = slice_get_within ns label a.old a.at

        new_at : slice_get ns' label ≡ Some a.new
        new_at = ap (λ (xs : List Node). slice_get xs label) a.nodes_are ∙ slice_get-set_same ns label a.new inside

        away : (i : ℕ) → i ≢ label → slice_get ns' i ≡ slice_get ns i
        away i other = ap (λ (xs : List Node). slice_get xs i) a.nodes_are ∙ slice_get-set_other ns label i a.new other

        grow : (l : ℕ) (n : Node) → slice_get ns l ≡ Some n → (u : Node) × (slice_get ns' l ≡ Some u) × (u.low ≡ n.low)
        grow l n at = elim (cases_eq l label) [
          | inl e ↦ (let same : n ≡ a.old = same_Some n a.old (sym at ∙ ap (slice_get ns) e ∙ a.at) in (a.new, ap (slice_get ns') e ∙ new_at, same_low ∙ ap (λ (x : Node). x.low) (sym same)))
          | inr other ↦ (n, away l other ∙ at, refl)
        ]

        new_node : IsGatheredNode m side t tile f (k + 1) a.new
        new_node =
            let old = g.nodes label a.old a.at in
            let r : Rank = rank m here in
            let low = old.few in
            let count = a.adds.points in
            let member : IsSinkOf m side t r a.new.low = subst (λ (s : Rank). IsSinkOf m side t r s) (sym (same_low ∙ old_low)) of in
            let own = subst (λ (s : Rank). AreSums (Gathers m side t f k s) (IsEdge m) a.old.points a.old.high a.old.least a.old.edge_low a.old.edge_high) (sym same_low) old.sums in
            let more = sums-more (Gathers m side t f k a.new.low) (IsEdge m) r (λ taken. not_taken present taken.0) a.edge a.tells.on a.tells.off a.old a.new a.adds own in
            record {
              sink = subst (IsSink m side t) (sym same_low) old.sink;
              in_tile = ap (tile_at m.size t) same_low ∙ old.in_tile;
              tile_is = a.adds.tile ∙ old.tile_is;
              flows = subst (λ (o : Option Pos). MatchOption o (IsPit m side a.new.low) (FlowsTo m side a.new.low)) (sym a.adds.flows)
                  (subst (λ (s : Rank). MatchOption a.old.flows (IsPit m side s) (FlowsTo m side s)) (sym same_low) old.flows);
              sums = sums-same (More (Gathers m side t f k a.new.low) (IsEdge m) r (λ taken. not_taken present taken.0)) (Gathers m side t f (k + 1) a.new.low) (IsEdge m)
                  (IsEdge m) (more-own a.new.low present member) (λ x x_in. (λ e. e, λ e. e))
                  a.new.points a.new.high a.new.least a.new.edge_low a.new.edge_high more;
              few = omega (arith, low, count);
            }

        pub gathered-adds : IsGathered m side t tile f (k + 1) ns' numbers' (ls ++ label ∷ [])
        gathered-adds = record {
          numbers_count = ap (λ (xs : List ℕ). length xs) a.numbers_are ∙ g.numbers_count;
          labels_count = labels-count label;
          few = (let few = g.few in let long = length-set ns label a.new in let e = ap (λ (xs : List Node). length xs) a.nodes_are in omega (arith, few, long, e));
          nodes = λ i n at. elim (cases_eq i label) [
            | inl e ↦ subst (IsGatheredNode m side t tile f (k + 1)) (same_Some a.new n (sym new_at ∙ ap (slice_get ns') (sym e) ∙ at)) new_node
            | inr other ↦ (
                let was = sym (away i other) ∙ at in
                node-other n (λ p s. other (
                let low : n.low ≡ a.old.low = own-sink n.low s ∙ sym old_low in
                let mine = g.homes i n was in
                let its = g.homes label a.old a.at in
                same_Some i label (sym mine ∙ ap (λ (r : Rank). slice_get numbers (home_of m t r)) low ∙ its))) (g.nodes i n was))
          ];
          homes = λ i n at. elim (cases_eq i label) [
            | inl e ↦ (
                let same : n ≡ a.new = same_Some n a.new (sym at ∙ ap (slice_get ns') e ∙ new_at) in
                ap (λ (xs : List ℕ). slice_get xs (home_of m t n.low)) a.numbers_are ∙ ap (λ (x : Node). slice_get numbers (home_of m t x.low)) same
                ∙ ap (λ (r : Rank). slice_get numbers (home_of m t r)) same_low ∙ g.homes label a.old a.at ∙ ap (λ (j : ℕ). Some j) (sym e))
            | inr other ↦ ap (λ (xs : List ℕ). slice_get xs (home_of m t n.low)) a.numbers_are ∙ g.homes i n (sym (away i other) ∙ at)
          ];
          known = λ j i at taken. (
              let n = g.known j i (ap (λ (xs : List ℕ). slice_get xs j) (sym a.numbers_are) ∙ at) taken in
              let u = grow i n.0 n.1 in
              (u.0, u.1, ap (home_of m t) u.2 ∙ n.2));
          labels = labels-more ns' label grow (record {
            there = λ p. (a.new, new_at, subst (λ (s : Rank). IsSinkOf m side t (rank m here) s) (sym (same_low ∙ old_low)) of);
            none = λ absent. absurd (absent present);
          });
        }

      -- the sink gets a node
      module _ (ns' : List Node) (numbers' : List ℕ) (label : ℕ) (a : StartsNode m side t tile here q ns ns' numbers numbers' label) where
        -- no node had the sink
        none_own : (i : ℕ) (n : Node) → slice_get ns i ≡ Some n → n.low ≡ rank m q → ⊥
        none_own i n at e =
            let number = g.homes i n at in
            let same : i ≡ no_node = same_Some i no_node (sym number ∙ ap (slice_get numbers) (home-rank n.low e) ∙ a.free) in
            let short = slice_get_within ns i n at in
            let few = g.few in
            omega (arith, same, short, few, below, bound)

        none_gathered : (r : Rank) → Gathers m side t f k (rank m q) r → ⊥
        none_gathered r gathered =
            let taken = gathered.0 in
            let n = (g.labels taken.place taken.before).there taken.present in
            let mine : IsSinkOf m side t (rank m (at_place f taken.place)) (rank m q) = subst (λ (x : Rank). IsSinkOf m side t x (rank m q)) taken.rank_is gathered.1 in
            none_own (slice_index_or ls taken.place no_node) n.0 n.1 (sink-unique m side t (rank m (at_place f taken.place)) n.0.low (rank m q) n.2 mine)

        new_last : slice_get ns' (length ns) ≡ Some a.node
        new_last = ap (λ (xs : List Node). slice_get xs (length ns)) a.nodes_are ∙ get-push_last ns a.node

        left : (i : ℕ) (n : Node) → slice_get ns i ≡ Some n → slice_get ns' i ≡ Some n
        left i n at = ap (λ (xs : List Node). slice_get xs i) a.nodes_are ∙ get-push_left ns a.node n i at

        was_or_new : (i : ℕ) (n : Node) → slice_get ns' i ≡ Some n → (slice_get ns i ≡ Some n) ⊎ ((i ≡ length ns) × (n ≡ a.node))
        was_or_new i n at = get-push_cases ns a.node n i (ap (λ (xs : List Node). slice_get xs i) (sym a.nodes_are) ∙ at)

        first_node : IsGatheredNode m side t tile f (k + 1) a.node
        first_node =
            let r : Rank = rank m here in
            let low = a.low in
            let count = a.points in
            let one : AreSums (λ x. x ≡ r) (IsEdge m) 1 r.height r.height a.node.edge_low a.node.edge_high =
            (let both = sums-one m r a.edge a.node.edge_low a.tells a.edge_low in subst (λ (o : Option ℤ). AreSums (λ x. x ≡ r) (IsEdge m) 1 r.height r.height a.node.edge_low o)
            (a.edge_low ∙ sym a.edge_high) both) in
            let sized : AreSums (λ x. x ≡ r) (IsEdge m) a.node.points a.node.high a.node.least a.node.edge_low a.node.edge_high = rw (a.points, a.high, a.least) one in
            let member : IsSinkOf m side t r a.node.low = subst (λ (s : Rank). IsSinkOf m side t r s) (sym low) of in
            record {
              sink = subst (IsSink m side t) (sym low) (sink-is_sink m side t r (rank m q) of);
              in_tile = ap (tile_at m.size t) low ∙ sink_tile;
              tile_is = a.tile_is;
              flows = a.flows;
              sums = sums-same (λ x. x ≡ r) (Gathers m side t f (k + 1) a.node.low) (IsEdge m) (IsEdge m)
                  (λ x. (
                    λ e. (more-own a.node.low present member x).0 (inr e),
                    λ gathered. elim ((more-own a.node.low present member x).1 gathered) [
                      | inl was ↦ absurd (none_gathered x (subst (λ (s : Rank). Gathers m side t f k s x) low was))
                      | inr e ↦ e
                    ],
                  )) (λ x x_is. (λ e. e, λ e. e)) a.node.points a.node.high a.node.least a.node.edge_low a.node.edge_high sized;
              few = omega (arith, count);
            }

        numbered : (j : ℕ) → slice_get numbers' j ≡ slice_get (set numbers home (length ns)) j
        numbered j = ap (λ (xs : List ℕ). slice_get xs j) a.numbers_are

        pub gathered-starts : IsGathered m side t tile f (k + 1) ns' numbers' (ls ++ label ∷ [])
        gathered-starts = record {
          numbers_count = ap (λ (xs : List ℕ). length xs) a.numbers_are ∙ length-set numbers home (length ns) ∙ g.numbers_count;
          labels_count = labels-count label;
          few = (let few = g.few in let long = length_push ns a.node in let e = ap (λ (xs : List Node). length xs) a.nodes_are in omega (arith, few, long, e));
          nodes = λ i n at. elim (was_or_new i n at) [
            | inl was ↦ node-other n (λ p s. none_own i n was (own-sink n.low s)) (g.nodes i n was)
            | inr new ↦ subst (IsGatheredNode m side t tile f (k + 1)) (sym new.1) first_node
          ];
          homes = λ i n at. elim (was_or_new i n at) [
            | inl was ↦ numbered (home_of m t n.low) ∙ slice_get-set_other numbers home (home_of m t n.low) (length ns) (λ e. none_own i n was (same-home i n was e)) ∙ g.homes i n was
            | inr new ↦ (
                let at_home : home_of m t n.low ≡ home = ap (λ (x : Node). home_of m t x.low) new.1 ∙ home-rank a.node.low a.low in
                numbered (home_of m t n.low) ∙ ap (slice_get (set numbers home (length ns))) at_home ∙ slice_get-set_same numbers home (length ns) home-below ∙ ap (λ (j : ℕ). Some j) (sym new.0))
          ];
          known = λ j i at taken. elim (cases_eq j home) [
            | inl e ↦ (
                let value : i ≡ length ns = same_Some i (length ns) (sym at ∙ numbered j ∙ ap (slice_get (set numbers home (length ns))) e ∙ slice_get-set_same numbers home (length ns) home-below) in
                (a.node, ap (slice_get ns') value ∙ new_last, home-rank a.node.low a.low ∙ sym e))
            | inr other ↦ (
                let n = g.known j i (sym (slice_get-set_other numbers home j (length ns) other) ∙ sym (numbered j) ∙ at) taken in
                (n.0, left i n.0 n.1, n.2))
          ];
          labels = labels-more ns' label (λ l n at. (n, left l n at, refl)) (record {
            there = λ p. (a.node, ap (slice_get ns') a.label_is ∙ new_last, subst (λ (s : Rank). IsSinkOf m side t (rank m here) s) (sym a.low) of);
            none = λ absent. absurd (absent present);
          });
        }
