-- Maps that show the same heights in a tile and beside it have the same points, neighbours and edge points there, and so
-- the same sinks, nodes and labels; and the same passes between two such tiles.
use Rattle.std.proofs.Common.{◌≡◌, ℕ, inl, inr, Bool, true, false, Some, refl, sym, ◌∙◌, ap, subst, arith, ℤ, List, [], ◌∷◌, Option, None}
use Rattle.std.specs.Prelude.{◌↔◌, MatchOption}
use Rattle.hd_map.specs.declared.types.Pos.{Pos}
use Rattle.hd_map.specs.declared.types.Size.{Size}
use Rattle.hd_map.specs.declared.types.Rank.{Rank}
use Rattle.hd_map.specs.declared.types.Cell.{Cell}
use Rattle.hd_map.specs.declared.types.Cell.TheVariants.{Height, Bad}
use Rattle.hd_map.specs.Map.{Map, InGrid, IsMeasured, Present, cell_at, mask_at, shown_height, place_of, height_or_zero, position_at}
use Rattle.hd_map.specs.declared.types.Adjacency.{Adjacency}
use Rattle.hd_map.specs.Neighbour.{IsNear, AreBesideUnder, Neighbour}
use Rattle.hd_map.specs.Rank.{IsPoint, Near, rank}
use Rattle.hd_tiles.specs.Tile.{tile_of, IsRound, Agree}
use Rattle.hd_basin.specs.Basin.{tile_at, IsSink, AreNextsInside, IsSinkOf, FlowsTo, IsNode, IsBasinMeeting, IsBasinPass, IsLabel}
use Rattle.hd_basin.specs.Views.{ShowSame}
use Rattle.hd_map.specs.EdgePoint.{IsEdge, OnBorder, HasAbsentBeside}
use Rattle.hd_map.specs.declared.types.SideName.{SideName}
use Rattle.hd_map.specs.Region.{LowerNeighbour, IsNext, IsPit}
use Rattle.hd_basin.specs.declared.node.Node.{Node}
use Rattle.hd_basin.proofs.SinkLaws.{sink-tile}
use Rattle.hd_basin.proofs.Sums.{sums-same}
use Rattle.hd_basin.proofs.Areas.{tile-of_point}

-- a number is near itself
near_self : (a : ℕ) → IsNear a a
near_self a = (omega arith, omega arith)

-- what is in the tile is round it
pub round_self : (s : Size) (t tile : ℕ) (p : Pos) → InGrid s p → tile_of s t p ≡ tile → IsRound s t tile p
round_self s t tile p inside e = record { from = p; in_grid = inside; in_tile = e; columns = near_self p.x; rows = near_self p.y }

-- and so is each neighbour of a position of the tile
pub round_neighbour : (m : Map) (t tile : ℕ) (p q : Pos) → tile_of m.size t p ≡ tile → Neighbour m p q → IsRound m.size t tile q
round_neighbour m t tile p q e h = record { from = p; in_grid = h.from.in_grid; in_tile = e; columns = h.columns; rows = h.rows }

-- a present point shows its height
shown-present : (c : Cell) (masked : Bool) → IsMeasured c → masked ≡ false → shown_height c masked ≡ Some (height_or_zero c)
shown-present (Height h) masked measured clear = rw clear
shown-present Bad masked measured clear = absurd measured

-- what shows a height is measured and not masked, and has that height
record Shows (c : Cell) (masked : Bool) (h : ℤ) : Type 0 where
  measured : IsMeasured c
  clear : masked ≡ false
  height : height_or_zero c ≡ h

present-shown : (c : Cell) (masked : Bool) (h : ℤ) → shown_height c masked ≡ Some h → Shows c masked h
present-shown (Height g) false h e = record { measured = tt; clear = refl; height = cc }
present-shown (Height g) true h e = absurd cc
present-shown Bad masked h e = absurd cc

-- maps that agree show the same
pub agree-show : (m n : Map) (t tile : ℕ) → Agree m n t tile → ShowSame m n t tile
agree-show m n t tile a = record {
  size = a.size;
  adjacency = a.adjacency;
  heights = λ q inside round. ap (λ (c : Cell). shown_height c (mask_at m q)) (a.cells q inside round) ∙ ap (shown_height (cell_at n q)) (a.masks q inside round);
}

module _ (m n : Map) (t tile : ℕ) where
  pub show-sym : ShowSame m n t tile → ShowSame n m t tile
  show-sym a = record {
    size = sym a.size;
    adjacency = sym a.adjacency;
    heights = λ q inside round. sym (a.heights q (subst (λ (s : Size). InGrid s q) (sym a.size) inside) (subst (λ (s : Size). IsRound s t tile q) (sym a.size) round));
  }

  -- the tiles are the same
  show-tile : ShowSame m n t tile → (r : Rank) → tile_at n.size t r ≡ tile_at m.size t r
  show-tile a r = ap (λ (s : Size). tile_at s t r) (sym a.size)

  shows_there : ShowSame m n t tile → (q : Pos) → IsRound m.size t tile q → Present m q → Shows (cell_at n q) (mask_at n q) (height_or_zero (cell_at m q))
  shows_there a q round here = present-shown (cell_at n q) (mask_at n q) (height_or_zero (cell_at m q))
      (sym (a.heights q here.in_grid round) ∙ shown-present (cell_at m q) (mask_at m q) here.measured here.shown)

  -- what is present in the tile or beside it stays so
  pub present_kept : ShowSame m n t tile → (q : Pos) → IsRound m.size t tile q → Present m q → Present n q
  present_kept a q round here = (let s = shows_there a q round here in record { in_grid = subst (λ (s : Size). InGrid s q) a.size here.in_grid; measured = s.measured; shown = s.clear })

  -- and so does its rank
  pub rank_kept : ShowSame m n t tile → (q : Pos) → Present m q → IsRound m.size t tile q → rank m q ≡ rank n q
  rank_kept a q here round = same (height_or_zero (cell_at m q)) (height_or_zero (cell_at n q)) (place_of m.size q) (place_of n.size q) (sym (shows_there a q round here).height)
      (ap (λ (s : Size). place_of s q) a.size)
    where
      same : (g h : ℤ) (i j : ℕ) → g ≡ h → i ≡ j → ◌≡◌ {A = Rank} (record { height = g; index = i }) (record { height = h; index = j })
      same g h i j p q = cc

  point_kept : ShowSame m n t tile → (r : Rank) → tile_at m.size t r ≡ tile → IsPoint m r → IsPoint n r
  point_kept a r e point =
      let inside = point.present.in_grid in
      let round = round_self m.size t tile point.at inside (sym (tile-of_point m t r point.at point.present point.rank_is) ∙ e) in
      record { at = point.at; present = present_kept a point.at round point.present; rank_is = point.rank_is ∙ rank_kept a point.at point.present round }

  pub neighbour_kept : ShowSame m n t tile → (p q : Pos) → tile_of m.size t p ≡ tile → Neighbour m p q → Neighbour n p q
  neighbour_kept a p q in_tile h =
      let here = round_self m.size t tile p h.from.in_grid in_tile in
      let there : IsRound m.size t tile q = record { from = p; in_grid = h.from.in_grid; in_tile = in_tile; columns = h.columns; rows = h.rows } in
      record {
        from = present_kept a p here h.from;
        to = present_kept a q there h.to;
        columns = h.columns;
        rows = h.rows;
        different = h.different;
        beside = subst (λ
            (setting : Adjacency). AreBesideUnder setting p q) a.adjacency h.beside;
      }

  near_kept : ShowSame m n t tile → (x y : Rank) → tile_at m.size t x ≡ tile → Near m x y → Near n x y
  near_kept a x y e near =
      let h = near.neighbour in
      let in_tile : tile_of m.size t near.from ≡ tile = sym (tile-of_point m t x near.from h.from near.from_rank) ∙ e in
      let here = round_self m.size t tile near.from h.from.in_grid in_tile in
      let there : IsRound m.size t tile near.to = record { from = near.from; in_grid = h.from.in_grid; in_tile = in_tile; columns = h.columns; rows = h.rows } in
      record {
        from = near.from;
        to = near.to;
        neighbour = record {
          from = present_kept a near.from here h.from;
          to = present_kept a near.to there h.to;
          columns = h.columns;
          rows = h.rows;
          different = h.different;
          beside = subst (λ (setting : Adjacency). AreBesideUnder setting near.from near.to) a.adjacency h.beside;
        };
        from_rank = near.from_rank ∙ rank_kept a near.from h.from here;
        to_rank = near.to_rank ∙ rank_kept a near.to h.to there;
      }

-- a position without a present point beside a position of the tile stays
absent_beside_kept : (m n : Map) (t tile : ℕ) → ShowSame m n t tile → (p : Pos) → InGrid m.size p → tile_of m.size t p ≡ tile → HasAbsentBeside m p → HasAbsentBeside n p
absent_beside_kept m n t tile a p inside e missing =
    let round : IsRound m.size t tile missing.at = record { from = p; in_grid = inside; in_tile = e; columns = missing.columns; rows = missing.rows } in
    record {
      at = missing.at;
      in_grid = subst (λ (s : Size). InGrid s missing.at) a.size missing.in_grid;
      columns = missing.columns;
      rows = missing.rows;
      absent = λ here. missing.absent (present_kept n m t tile (show-sym m n t tile a) missing.at (subst (λ (s : Size). IsRound s t tile missing.at) a.size round) here);
    }

edge_kept : (m n : Map) (t tile : ℕ) → ShowSame m n t tile → (r : Rank) → tile_at m.size t r ≡ tile → IsEdge m r → IsEdge n r
edge_kept m n t tile a r e edge =
    let inside = edge.present.in_grid in
    let in_tile : tile_of m.size t edge.at ≡ tile = sym (tile-of_point m t r edge.at edge.present edge.rank_is) ∙ e in
    let round = round_self m.size t tile edge.at inside in_tile in
    record {
      at = edge.at;
      present = present_kept m n t tile a edge.at round edge.present;
      rank_is = edge.rank_is ∙ rank_kept m n t tile a edge.at edge.present round;
      open_side = elim edge.open_side [
        | inl border ↦ inl (subst (λ (s : Size). OnBorder s edge.at) a.size border)
        | inr missing ↦ inr (absent_beside_kept m n t tile a edge.at inside in_tile missing)
      ];
    }

-- two maps have the same points, neighbours and edge points in the tile
pub record Keeps (m n : Map) (t tile : ℕ) : Type 0 where
  pub size : m.size ≡ n.size
  pub presents : (p : Pos) → InGrid m.size p → tile_of m.size t p ≡ tile → Present m p ↔ Present n p
  pub ranks : (p : Pos) → InGrid m.size p → tile_of m.size t p ≡ tile → Present m p → rank m p ≡ rank n p
  pub points : (r : Rank) → tile_at m.size t r ≡ tile → IsPoint m r ↔ IsPoint n r
  pub nears : (x y : Rank) → tile_at m.size t x ≡ tile → Near m x y ↔ Near n x y
  pub edges : (r : Rank) → tile_at m.size t r ≡ tile → IsEdge m r ↔ IsEdge n r

-- maps that show the same in a tile and beside it keep what it is made of
pub keeps-show : (m n : Map) (t tile : ℕ) → ShowSame m n t tile → Keeps m n t tile
keeps-show m n t tile a =
    let back : ShowSame n m t tile = show-sym m n t tile a in
    let round = λ (p : Pos) (inside : InGrid m.size p) (e : tile_of m.size t p ≡ tile). round_self m.size t tile p inside e in
    record {
      size = a.size;
      presents = λ p inside e. (present_kept m n t tile a p (round p inside e), present_kept n m t tile back p (subst (λ (s : Size). IsRound s t tile p) a.size (round p inside e)));
      ranks = λ p inside e here. rank_kept m n t tile a p here (round p inside e);
      points = λ r e. (point_kept m n t tile a r e, point_kept n m t tile back r (show-tile m n t tile a r ∙ e));
      nears = λ x y e. (near_kept m n t tile a x y e, near_kept n m t tile back x y (show-tile m n t tile a x ∙ e));
      edges = λ r e. (edge_kept m n t tile a r e, edge_kept n m t tile back r (show-tile m n t tile a r ∙ e));
    }

pub keeps-sym : (m n : Map) (t tile : ℕ) → Keeps m n t tile → Keeps n m t tile
keeps-sym m n t tile k =
    let inside = λ (p : Pos) (h : InGrid n.size p). subst (λ (s : Size). InGrid s p) (sym k.size) h in
    let tiles = λ (r : Rank). ap (λ (s : Size). tile_at s t r) k.size in
    let at = λ (p : Pos). ap (λ (s : Size). tile_of s t p) k.size in
    record {
      size = sym k.size;
      presents = λ p h e. (let w = k.presents p (inside p h) (at p ∙ e) in (w.1, w.0));
      ranks = λ p h e here. sym (k.ranks p (inside p h) (at p ∙ e) ((k.presents p (inside p h) (at p ∙ e)).1 here));
      points = λ r e. (let w = k.points r (tiles r ∙ e) in (w.1, w.0));
      nears = λ x y e. (let w = k.nears x y (tiles x ∙ e) in (w.1, w.0));
      edges = λ r e. (let w = k.edges r (tiles r ∙ e) in (w.1, w.0));
    }

module _ (m n : Map) (side : SideName) (t tile : ℕ) (k : Keeps m n t tile) where
  same_tile : (r : Rank) → tile_at m.size t r ≡ tile_at n.size t r
  same_tile r = ap (λ (s : Size). tile_at s t r) k.size

  lower_back : (x y : Rank) → tile_at m.size t x ≡ tile → LowerNeighbour n side x y → LowerNeighbour m side x y
  lower_back x y e lower = record { near = (k.nears x y e).1 lower.near; below = lower.below }

  pub next_kept : (x y : Rank) → tile_at m.size t x ≡ tile → IsNext m side x y → IsNext n side x y
  next_kept x y e next = record {
    lower = record { near = (k.nears x y e).0 next.lower.near; below = next.lower.below };
    lowest = λ z lower. next.lowest z (lower_back x z e lower);
  }

  pit_kept : (x : Rank) → tile_at m.size t x ≡ tile → IsPit m side x → IsPit n side x
  pit_kept x e pit = record { point = (k.points x e).0 pit.point; alone = λ q lower. pit.alone q (lower_back x q e lower) }

-- what a sink, a basin and a node of the tile are in one map they are in the other
module _ (m n : Map) (side : SideName) (t tile : ℕ) (k : Keeps m n t tile) where
  pub next_back : (x y : Rank) → tile_at m.size t x ≡ tile → IsNext n side x y → IsNext m side x y
  next_back x y e next = next_kept n m side t tile (keeps-sym m n t tile k) x y (sym (same_tile m n side t tile k x) ∙ e) next

  pub sink_kept : (x : Rank) → tile_at m.size t x ≡ tile → IsSink m side t x → IsSink n side t x
  sink_kept x e sink = record {
    point = (k.points x e).0 sink.point;
    leaves = λ q next same. sink.leaves q (next_back x q e next) (same_tile m n side t tile k q ∙ same ∙ sym (same_tile m n side t tile k x));
  }

  nexts_kept : (x s : Rank) (path : List Rank) → tile_at m.size t x ≡ tile → AreNextsInside m side t x path s → AreNextsInside n side t x path s
  nexts_kept x s [] e nexts = (nexts.0, sink_kept x e nexts.1)
  nexts_kept x s (q ∷ path) e nexts = (
    next_kept m n side t tile k x q e nexts.0,
    sym (same_tile m n side t tile k q) ∙ nexts.1 ∙ same_tile m n side t tile k x,
    nexts_kept q s path (nexts.1 ∙ e) nexts.2,
  )

  pub sink_of_kept : (x s : Rank) → tile_at m.size t x ≡ tile → IsSinkOf m side t x s → IsSinkOf n side t x s
  sink_of_kept x s e of = (of.0, nexts_kept x s of.0 e of.1)

  flows_kept : (s : Rank) (o : Option Pos) → tile_at m.size t s ≡ tile → MatchOption o (IsPit m side s) (FlowsTo m side s) → MatchOption o (IsPit n side s) (FlowsTo n side s)
  flows_kept s None e pit = pit_kept m n side t tile k s e pit
  flows_kept s (Some q) e flows = record {
    to = flows.to;
    is_next = next_kept m n side t tile k s flows.to e flows.is_next;
    at = flows.at ∙ ap (λ (size : Size). position_at size flows.to.index) k.size;
  }

-- the members of the basin of a sink of the tile are the same
same_members : (m n : Map) (side : SideName) (t tile : ℕ) → Keeps m n t tile → (s : Rank) → tile_at m.size t s ≡ tile → (p : Rank) → IsSinkOf m side t p s ↔ IsSinkOf n side t p s
same_members m n side t tile k s e p = (
  λ of. sink_of_kept m n side t tile k p s (sym (sink-tile m side t p s of) ∙ e) of,
  λ of. (let back = keeps-sym m n t tile k in let at : tile_at n.size t s ≡ tile = sym (same_tile m n side t tile k s) ∙ e in
      sink_of_kept n m side t tile back p s (sym (sink-tile n side t p s of) ∙ at) of),
)

-- a node of the tile is a node of the other map
pub node_kept : (m n : Map) (side : SideName) (t tile : ℕ) → Keeps m n t tile → (x : Node) → x.tile ≡ tile → IsNode m side t x → IsNode n side t x
node_kept m n side t tile k x e node =
    let at : tile_at m.size t x.low ≡ tile = sym node.tile ∙ e in
    let members = same_members m n side t tile k x.low at in
    record {
      sink = sink_kept m n side t tile k x.low at node.sink;
      tile = node.tile ∙ same_tile m n side t tile k x.low;
      flows = flows_kept m n side t tile k x.low x.flows at node.flows;
      sums = sums-same (λ p. IsSinkOf m side t p x.low) (λ p. IsSinkOf n side t p x.low) (IsEdge m) (IsEdge n) members
          (λ r of. k.edges r (sym (sink-tile m side t r x.low of) ∙ at)) x.points x.high x.least x.edge_low x.edge_high node.sums;
    }

-- and so is a label
pub label_kept : (m n : Map) (side : SideName) (t tile : ℕ) → Keeps m n t tile → (p : Pos) → InGrid m.size p → tile_of m.size t p ≡ tile → (l : Option Rank) → IsLabel m side t p l
    → IsLabel n side t p l
label_kept m n side t tile k p inside e None absent = λ here. absent ((k.presents p inside e).1 here)
label_kept m n side t tile k p inside e (Some s) l =
    let at : tile_at m.size t (rank m p) ≡ tile = tile-of_point m t (rank m p) p l.0 refl ∙ e in
    ((k.presents p inside e).0 l.0, subst (λ (r : Rank). IsSinkOf n side t r s) (k.ranks p inside e l.0) (sink_of_kept m n side t tile k (rank m p) s at l.1))

-- where two basins meet in one map, they meet in the other, if both of their tiles are kept
pub meeting_kept : (m n : Map) (side : SideName) (t i j : ℕ) → Keeps m n t i → Keeps m n t j → (a b w : Rank) → tile_at m.size t a ≡ i → tile_at m.size t b ≡ j
    → IsBasinMeeting m side t a b w → IsBasinMeeting n side t a b w
meeting_kept m n side t i j k l a b w at bt meet =
    let from : tile_at m.size t meet.from ≡ i = sym (sink-tile m side t meet.from a meet.from_in) ∙ at in
    let to : tile_at m.size t meet.to ≡ j = sym (sink-tile m side t meet.to b meet.to_in) ∙ bt in
    record {
      from = meet.from;
      to = meet.to;
      near = (k.nears meet.from meet.to from).0 meet.near;
      from_in = sink_of_kept m n side t i k meet.from a from meet.from_in;
      to_in = sink_of_kept m n side t j l meet.to b to meet.to_in;
      higher = meet.higher;
    }

-- and they have one pass
pub pass_kept : (m n : Map) (side : SideName) (t i j : ℕ) → Keeps m n t i → Keeps m n t j → (a b w : Rank) → tile_at m.size t a ≡ i → tile_at m.size t b ≡ j
    → IsBasinPass m side t a b w → IsBasinPass n side t a b w
pass_kept m n side t i j k l a b w at bt pass = record {
  apart = pass.apart;
  meeting = meeting_kept m n side t i j k l a b w at bt pass.meeting;
  lowest = λ u meet. pass.lowest u (meeting_kept n m side t i j (keeps-sym m n t i k) (keeps-sym m n t j l) a b u
      (sym (same_tile m n side t i k a) ∙ at) (sym (same_tile m n side t i k b) ∙ bt) meet);
}
