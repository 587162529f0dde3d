-- The root of a point by the labels and nodes of a pool.
use Rattle.std.proofs.Common.{◌≡◌, ◌<◌, ℕ, List, Option, Some, None, refl, sym, ◌∙◌, ap, subst, slice_get}
use Rattle.std.specs.Prelude.{MatchOption, Contains}
use Rattle.std.proofs.lemmas.Option.{slice_get_within, get_or_from_slice_get}
use Rattle.hd_map.specs.declared.types.Pos.{Pos}
use Rattle.hd_map.specs.declared.types.Rank.{Rank}
use Rattle.hd_map.specs.declared.types.Size.{Size}
use Rattle.hd_map.specs.declared.types.SideName.{SideName}
use Rattle.hd_map.specs.Map.{Map, IsMap, InGrid, Present, position_at}
use Rattle.hd_map.specs.Rank.{rank}
use Rattle.hd_map.specs.Region.{IsPit, IsRoot}
use Rattle.hd_map.proofs.Depth.{depth_by}
use Rattle.hd_map.proofs.Nexts.{root-pit}
use Rattle.hd_map.proofs.Points.{rank_position}
use Rattle.hd_tiles.specs.Tile.{tile_of}
use Rattle.hd_basin.specs.declared.node.Node.{Node}
use Rattle.hd_basin.specs.declared.part.Part.{Part}
use Rattle.hd_basin.specs.Basin.{IsNode, IsLabel, IsSinkOf, FlowsTo}
use Rattle.hd_basin.specs.Parts.{Pool, HasNode, node_at, node_of, low_of, label_of, place_in_tile}
use Rattle.hd_basin.specs.InStep.{IsPoolOf, HasMap}
use Rattle.hd_basin.specs.Reading.{RootIs}
use Rattle.hd_basin.proofs.SinkLaws.{FlowsInto, sink-root}
use Rattle.hd_basin.proofs.Flowing.{flows-point, flows-into, flows-falls, flows-root_step}

-- what is read in a list is in it
pub read-contains : {X : Type 0} (xs : List X) (k : ℕ) (x : X) → slice_get xs k ≡ Some x → Contains xs x
read-contains xs k x e = (k, slice_get_within xs k x e, get_or_from_slice_get xs k x x e)

-- the node at a place of a tile is one of the tile's
node-of_part : (parts : List Part) (tile place : ℕ) (o : Option Part) → slice_get parts tile ≡ o → (n : Node) → node_at o place ≡ Some n → HasNode parts tile n
node-of_part parts tile place None at n e = absurd cc
node-of_part parts tile place (Some part) at n e = record { part = part; at = at; has = read-contains part.nodes _ n e }

pub node-had : (s : Size) (t : ℕ) (parts : List Part) (p : Pos) (n : Node) → node_of s t parts p ≡ Some n → HasNode parts (tile_of s t p) n
node-had s t parts p n e = node-of_part parts (tile_of s t p) (place_in_tile s t p) (slice_get parts (tile_of s t p)) refl n e

-- a node of the map whose sink has the root of p
pub record IsAt (m : Map) (side : SideName) (t : ℕ) (p : Pos) (n : Node) : Type 0 where
  pub present : Present m p
  pub node : IsNode m side t n
  pub same_root : (r : Rank) → IsRoot m side n.low r → IsRoot m side (rank m p) r

-- for each map that it is the pool of
abbrev pub OnWay : SideName → Pool → Pos → Node → Type 0
OnWay side pool p n = (m : Map) → IsMap m → IsPoolOf m side pool → IsAt m side pool.side p n

module _ (m : Map) (side : SideName) (pool : Pool) (of : IsPoolOf m side pool) (p : Pos) (inside : InGrid pool.size p) where
  label-right : IsLabel m side pool.side p (label_of pool.size pool.side pool.parts p)
  label-right = of.has.right.labels p (subst (λ (s : Size). InGrid s p) of.size inside) tt

  -- the node of a position is that of the map
  pub node-right : (n : Node) → node_of pool.size pool.side pool.parts p ≡ Some n → IsNode m side pool.side n × (Present m p × IsSinkOf m side pool.side (rank m p) n.low)
  node-right n e = (
    (of.has.right.nodes (tile_of pool.size pool.side p) n tt (node-had pool.size pool.side pool.parts p n e)).0,
    subst (λ (o : Option Node). IsLabel m side pool.side p (low_of o)) e label-right,
  )

  -- and there is one where a point is present
  pub none-right : node_of pool.size pool.side pool.parts p ≡ None → Present m p → ⊥
  none-right e = subst (λ (o : Option Node). IsLabel m side pool.side p (low_of o)) e label-right

-- the way begins at the node of the position
pub way-start : (side : SideName) (pool : Pool) (p : Pos) (n : Node) → InGrid pool.size p → node_of pool.size pool.side pool.parts p ≡ Some n → OnWay side pool p n
way-start side pool p n inside e = λ m whole of. (
    let r = node-right m side pool of p inside n e in
    record { present = r.1.0; node = r.0; same_root = λ s root. (sink-root m side pool.side (rank m p) n.low s r.1.1).1 root })

module _ (side : SideName) (pool : Pool) (p : Pos) (n : Node) (q : Pos) (way : OnWay side pool p n) (onward : n.flows ≡ Some q) where
  -- the node flows to the position
  flows : (m : Map) → IsMap m → IsPoolOf m side pool → FlowsTo m side n.low q
  flows m whole of = subst (λ (o : Option Pos). MatchOption o (IsPit m side n.low) (FlowsTo m side n.low)) onward (way m whole of).node.flows

  -- which is in the grid
  pub way-inside : HasMap side pool → InGrid pool.size q
  way-inside has = subst (λ (s : Size). InGrid s q) (sym has.pool_of.size) (flows-point has.map side pool.side n.low q (flows has.map has.whole has.pool_of)).0.in_grid

  pub way-into : (m : Map) (whole : IsMap m) (of : IsPoolOf m side pool) → InGrid pool.size q → (u : Node) → node_of pool.size pool.side pool.parts q ≡ Some u → FlowsInto m side pool.side n.low u.low
  way-into m whole of inside u e = flows-into m side pool.side n.low q u.low (flows m whole of) (node-right m side pool of q inside u e).1

  pub way-more : (u : Node) → InGrid pool.size q → node_of pool.size pool.side pool.parts q ≡ Some u → OnWay side pool p u
  way-more u inside e = λ m whole of. (
      let here = way m whole of in
      record {
        present = here.present;
        node = (node-right m side pool of q inside u e).0;
        same_root = λ r root. here.same_root r (flows-root_step m side pool.side n.low u.low r (way-into m whole of inside u e) root);
      })

  -- the way falls
  pub way-smaller : HasMap side pool → (u : Node) → InGrid pool.size q → node_of pool.size pool.side pool.parts q ≡ Some u → depth_by side u.low < depth_by side n.low
  way-smaller has u inside e = flows-falls has.map side pool.side n.low u.low has.whole (way-into has.map has.whole has.pool_of inside u e)

  -- and has a node at each place
  pub way-labelled : HasMap side pool → InGrid pool.size q → node_of pool.size pool.side pool.parts q ≡ None → ⊥
  way-labelled has inside e = none-right has.map side pool has.pool_of q inside e (flows-point has.map side pool.side n.low q (flows has.map has.whole has.pool_of)).0

-- a node that flows nowhere is at the root
pub way-end : (side : SideName) (pool : Pool) (p q : Pos) (n : Node) → OnWay side pool p n → n.flows ≡ None → q ≡ position_at pool.size n.low.index → (m : Map) → IsMap m
    → IsPoolOf m side pool → RootIs m side p (Some q)
way-end side pool p q n way ends at = λ m whole of. (
    let here = way m whole of in
    let pit : IsPit m side n.low = subst (λ (o : Option Pos). MatchOption o (IsPit m side n.low) (FlowsTo m side n.low)) ends here.node.flows in
    let point = here.node.sink.point in
    let same : point.at ≡ q = sym (rank_position m n.low point.at point.present point.rank_is) ∙ ap (λ (s : Size). position_at s n.low.index) (sym of.size) ∙ sym at in
    let there : Present m q = subst (Present m) same point.present in
    let low : rank m q ≡ n.low = ap (rank m) (sym same) ∙ sym point.rank_is in
    (here.present, there, subst (λ (r : Rank). IsRoot m side (rank m p) r) (sym low) (here.same_root n.low (root-pit m side n.low pit))))

-- the point of a node's sink
sink-there : (m : Map) (side : SideName) (pool : Pool) (of : IsPoolOf m side pool) (tile : ℕ) (n : Node) → HasNode pool.parts tile n → Present m (position_at pool.size n.low.index)
    × (rank m (position_at pool.size n.low.index) ≡ n.low)
sink-there m side pool of tile n had =
    let point = (of.has.right.nodes tile n tt had).0.sink.point in
    let same : point.at ≡ position_at pool.size n.low.index = sym (rank_position m n.low point.at point.present point.rank_is) ∙ ap (λ (s : Size). position_at s n.low.index) (sym of.size) in
    (subst (Present m) same point.present, ap (rank m) (sym same) ∙ sym point.rank_is)

-- the way from a node's own sink begins at the node
pub way-own : (side : SideName) (pool : Pool) (tile : ℕ) (n : Node) → HasNode pool.parts tile n → OnWay side pool (position_at pool.size n.low.index) n
way-own side pool tile n had = λ m whole of. (
    let there = sink-there m side pool of tile n had in
    record { present = there.0; node = (of.has.right.nodes tile n tt had).0; same_root = λ r root. subst (λ (p : Rank). IsRoot m side p r) (sym there.1) root })
