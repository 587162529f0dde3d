-- A tile whose points are all gathered has its nodes and its labels.
use Rattle.std.proofs.Common.{◌≡◌, ◌≢◌, ◌<◌, ◌≤◌, ◌*◌, ℕ, inl, inr, List, [], ◌∷◌, length, map, get_or, Option, Some, None, slice_get, refl, sym, ◌∙◌, ap, subst, arith}
use Rattle.std.specs.Prelude.{AllPairs, Contains}
use Rattle.std.proofs.lemmas.Option.{same_Some, slice_get_within, slice_get-get_or, get_or_from_slice_get}
use Rattle.hd_map.specs.declared.types.Pos.{Pos}
use Rattle.hd_map.specs.declared.types.Rank.{Rank}
use Rattle.hd_map.specs.declared.types.Size.{Size}
use Rattle.hd_map.specs.declared.types.SideName.{SideName}
use Rattle.hd_map.specs.Map.{Map, InGrid, Present}
use Rattle.hd_map.specs.Rank.{rank, IsPoint}
use Rattle.hd_map.proofs.Points.{present_or_not}
use Rattle.hd_tiles.specs.Tile.{tile_of}
use Rattle.hd_basin.specs.declared.frame.Frame.{Frame}
use Rattle.hd_basin.specs.declared.node.Node.{Node}
use Rattle.hd_basin.specs.declared.part.Part.{Part}
use Rattle.hd_basin.specs.Basin.{IsSink, IsSinkOf, IsNode, IsLabel, AreNextsInside, tile_at}
use Rattle.hd_basin.specs.Built.{HasPasses, IsNoded}
use Rattle.hd_basin.specs.Inside.{AreNamed, place_of_frame}
use Rattle.hd_map.specs.EdgePoint.{IsEdge}
use Rattle.hd_basin.specs.Gathering.{IsTaken, Gathers, home_of, IsNamed, IsGathered}
use Rattle.hd_basin.specs.Parts.{JoinBelow, low_of, node_at, pass_named, place_in_tile}
use Rattle.hd_basin.specs.Sinks.{IsArea, at_place, no_node}
use Rattle.hd_basin.proofs.Areas.{area-in, area-below, area-at, area-grid, tile-of_point}
use Rattle.hd_basin.proofs.Sums.{sums-same}
use Rattle.hd_basin.proofs.FlatLists.{Contains-at}
use Rattle.hd_basin.proofs.Frames.{frame_step, step-in_frame}
use Rattle.hd_basin.proofs.Views.{Keeps, keeps-sym, node_kept, label_kept, sink_kept, meeting_kept, pass_kept}
use Rattle.hd_basin.proofs.PointRoots.{read-contains}
use Rattle.hd_basin.proofs.SinkLaws.{sink-unique, sink-own, sink-tile}

-- what has a sink is a point
sunk-point : (m : Map) (side : SideName) (t : ℕ) (r s : Rank) (path : List Rank) → AreNextsInside m side t r path s → IsPoint m r
sunk-point m side t r s [] nexts = nexts.1.point
sunk-point m side t r s (q ∷ path) nexts = (let near = nexts.0.lower.near in record { at = near.from; present = near.neighbour.from; rank_is = near.from_rank })

module _ (m : Map) (side : SideName) (t tile : ℕ) (f : Frame) (some : 1 ≤ t) (area : IsArea m.size t tile f) (small : f.columns * f.rows ≤ 65536)
    (ns : List Node) (numbers ls : List ℕ) (g : IsGathered m side t tile f (f.columns * f.rows) ns numbers ls) where
  abbrev all : ℕ
  all = f.columns * f.rows

  taken-at : (p : Pos) → Present m p → tile_of m.size t p ≡ tile → IsTaken m f all (rank m p)
  taken-at p here at =
      let within = area-in m.size t tile f some area p here.in_grid at in
      let same : at_place f (place_in_tile m.size t p) ≡ p = area-at m.size t tile f some area p within in
      record {
        place = place_in_tile m.size t p;
        before = area-below m.size t tile f some area p within;
        present = subst (Present m) (sym same) here;
        rank_is = ap (rank m) (sym same);
      }

  -- each point of a basin of the tile was taken
  taken : (r s : Rank) → tile_at m.size t s ≡ tile → IsSinkOf m side t r s → IsTaken m f all r
  taken r s at of =
      let point = sunk-point m side t r s of.0 of.1 in
      let in_tile : tile_of m.size t point.at ≡ tile = sym (tile-of_point m t r point.at point.present point.rank_is) ∙ sym (sink-tile m side t r s of) ∙ at in
      subst (IsTaken m f all) (sym point.rank_is) (taken-at point.at point.present in_tile)

  node-right : (i : ℕ) (n : Node) → slice_get ns i ≡ Some n → IsNode m side t n × (n.tile ≡ tile)
  node-right i n at =
      let h = g.nodes i n at in (
        record {
          sink = h.sink;
          tile = h.tile_is ∙ sym h.in_tile;
          flows = h.flows;
          sums = sums-same (Gathers m side t f all n.low) (λ p. IsSinkOf m side t p n.low) (IsEdge m) (IsEdge m)
              (λ r. (λ mine. mine.1, λ of. (taken r n.low h.in_tile of, of))) (λ r mine. (λ e. e, λ e. e)) n.points n.high n.least n.edge_low n.edge_high h.sums;
        },
        h.tile_is,
      )

  -- no two nodes have one sink
  once : AllPairs (λ (n u : Node). n.low ≢ u.low) ns
  once = λ i j d less inside same.
      let a : Node = get_or ns i d in
      let b : Node = get_or ns j d in
      let before : i < length ns = omega (arith, less, inside) in
      let first = g.homes i a (slice_get-get_or ns i d before) in
      let second = g.homes j b (slice_get-get_or ns j d inside) in
      let e : i ≡ j = same_Some i j (sym first ∙ ap (λ (s : Rank). slice_get numbers (home_of m t s)) same ∙ second) in
      omega (arith, e, less)

  named : (p : Pos) → InGrid m.size p → tile_of m.size t p ≡ tile → IsNamed m side t ns p (get_or ls (place_in_tile m.size t p) no_node)
  named p inside at =
      let within = area-in m.size t tile f some area p inside at in
      subst (λ (q : Pos). IsNamed m side t ns q (get_or ls (place_in_tile m.size t p) no_node)) (area-at m.size t tile f some area p within)
      (g.labels (place_in_tile m.size t p) (area-below m.size t tile f some area p within))

  sink-noded : (s : Rank) → tile_at m.size t s ≡ tile → IsSink m side t s → (n : Node) × Contains ns n × (n.low ≡ s)
  sink-noded s at sink =
      let point = sink.point in
      let in_tile : tile_of m.size t point.at ≡ tile = sym (tile-of_point m t s point.at point.present point.rank_is) ∙ at in
      let n = (named point.at point.present.in_grid in_tile).there point.present in (
        n.0,
        read-contains ns (get_or ls (place_in_tile m.size t point.at) no_node) n.0 n.1,
        sink-unique m side t (rank m point.at) n.0.low s n.2 (subst (λ (r : Rank). IsSinkOf m side t r s) point.rank_is (sink-own m side t s sink)),
      )

  -- the label with no node
  label-right : (p : Pos) (label : ℕ) → InGrid m.size p → IsNamed m side t ns p label → (o : Option Node) → slice_get ns label ≡ o → IsLabel m side t p (low_of o)
  label-right p label inside name None none = λ here. absurd (let n = name.there here in let e : Some n.0 ≡ None = sym n.1 ∙ none in cc)
  label-right p label inside name (Some n) at = elim (present_or_not m p inside) [
    | inl here ↦ (let u = name.there here in (here, subst (λ (x : Node). IsSinkOf m side t (rank m p) x.low) (same_Some u.0 n (sym u.1 ∙ at)) u.2))
    | inr absent ↦ absurd (let e = name.none absent in let below = slice_get_within ns label n at in let few = g.few in omega (arith, e, below, few, small))
  ]

  -- and name the nodes
  pub noded-named : AreNamed m side t f ns ls
  noded-named = record {
    count = g.labels_count;
    few = (let few = g.few in omega (arith, few, small));
    named = λ p within. (
        let step = frame_step f p within in
        subst (λ (q : Pos). IsNamed m side t ns q (get_or ls (place_of_frame f p) no_node)) step.1 (g.labels (place_of_frame f p) step.0));
    distinct = λ i j n u at there same. same_Some i j (sym (g.homes i n at) ∙ ap (λ (s : Rank). slice_get numbers (home_of m t s)) same ∙ g.homes j u there);
  }

  -- a label that is there is below their number
  label-below : (label : ℕ) → Contains ls label → label ≢ no_node → label < length ns
  label-below label has there =
      let i = Contains-at ls label has in
      let below : i.0 < all = (let inside = slice_get_within ls i.0 label i.1 in let count = g.labels_count in omega (arith, inside, count)) in
      let name = subst (λ (k : ℕ). IsNamed m side t ns (at_place f i.0) k) (get_or_from_slice_get ls i.0 label no_node i.1) (g.labels i.0 below) in
      elim (present_or_not m (at_place f i.0) (area-grid m.size t tile f some area (at_place f i.0) (step-in_frame f i.0 below))) [
        | inl here ↦ (let n = name.there here in slice_get_within ns label n.0 n.1)
        | inr absent ↦ absurd (there (name.none absent))
      ]

  pub gathered-noded : (part : Part) → part.nodes ≡ ns → part.labels.items ≡ ls → HasPasses m side t tile (map (pass_named ns) part.joins) → JoinBelow (length ns) part.joins
      → IsNoded m side t tile part
  gathered-noded part nodes labels passes joined = record {
    names = record {
      labels = λ label has there. subst (λ (xs : List Node). label < length xs) (sym nodes) (label-below label (subst (λ (xs : List ℕ). Contains xs label) labels has) there);
      passes = subst (λ (xs : List Node). JoinBelow (length xs) part.joins) (sym nodes) joined;
    };
    passes = subst (λ (xs : List Node). HasPasses m side t tile (map (pass_named xs) part.joins)) (sym nodes) passes;
    nodes = λ n has. (let i = Contains-at ns n (subst (λ (xs : List Node). Contains xs n) nodes has) in node-right i.0 n i.1);
    once = subst (λ (xs : List Node). AllPairs (λ (n u : Node). n.low ≢ u.low) xs) (sym nodes) once;
    sinks = λ s at sink. (let n = sink-noded s at sink in (n.0, subst (λ (xs : List Node). Contains xs n.0) (sym nodes) n.1, n.2));
    labels = λ p inside at.
        let within = area-in m.size t tile f some area p inside at in
        let place : ℕ = place_in_tile m.size t p in
        let below = area-below m.size t tile f some area p within in
        let count = g.labels_count in
        let in_list : place < length ls = omega (arith, below, count) in
        let same : get_or part.labels.items place (length part.nodes) ≡ get_or ls place no_node =
        ap (λ (xs : List ℕ). get_or xs place (length part.nodes)) labels ∙ get_or_from_slice_get ls place (get_or ls place no_node) (length part.nodes) (slice_get-get_or ls place no_node in_list) in
        let read : node_at (Some part) place ≡ slice_get ns (get_or ls place no_node) =
        ap (λ (xs : List Node). slice_get xs (get_or part.labels.items place (length part.nodes))) nodes ∙ ap (slice_get ns) same in
        subst (λ (o : Option Node). IsLabel m side t p (low_of o)) (sym read) (label-right p (get_or ls place no_node) inside (named p inside at) (slice_get ns (get_or ls place no_node)) refl);
  }

-- what it has in a map that shows the same, it has in the other
pub noded-kept : (m n : Map) (side : SideName) (t tile : ℕ) → Keeps m n t tile → (part : Part) → IsNoded n side t tile part → IsNoded m side t tile part
noded-kept m n side t tile k part h =
    let back = keeps-sym m n t tile k in
    record {
      nodes = λ x has. (let u = h.nodes x has in (node_kept n m side t tile back x u.1 u.0, u.1));
      once = h.once;
      names = h.names;
      passes = record {
        inside = λ p has. (
            let u = h.passes.inside p has in (
              pass_kept n m side t tile tile back back p.a p.b p.at u.1 u.2 u.0,
              ap (λ (z : Size). tile_at z t p.a) k.size ∙ u.1,
              ap (λ (z : Size). tile_at z t p.b) k.size ∙ u.2,
            ));
        inside_all = λ a b w own other apart mt. h.passes.inside_all a b w (ap (λ (z : Size). tile_at z t a) (sym k.size) ∙ own) (ap (λ (z : Size). tile_at z t b) (sym k.size)
            ∙ other) apart (meeting_kept m n side t tile tile k k a b w own other mt);
        once = h.passes.once;
      };
      sinks = λ s at sink. h.sinks s (ap (λ (z : Size). tile_at z t s) (sym k.size) ∙ at) (sink_kept m n side t tile k s at sink);
      labels = λ p inside at.
          subst (λ (z : Size). IsLabel m side t p (low_of (node_at (Some part) (place_in_tile z t p)))) (sym k.size)
          (label_kept n m side t tile back p (subst (λ (z : Size). InGrid z p) k.size inside) (ap (λ (z : Size). tile_of z t p) (sym k.size) ∙ at)
          (low_of (node_at (Some part) (place_in_tile n.size t p)))
          (h.labels p (subst (λ (z : Size). InGrid z p) k.size inside) (ap (λ (z : Size). tile_of z t p) (sym k.size) ∙ at)));
    }
