use Rattle.std.proofs.Common.{◌≡◌, ◌*◌, ℕ, Option, Some, None, sym, ◌∙◌, ap, subst, rules, arith}
use Rattle.std.proofs.lemmas.Option.{same_Some}
use Rattle.hd_map.specs.declared.types.Pos.{Pos}
use Rattle.hd_map.specs.declared.types.Size.{Size}
use Rattle.hd_map.specs.Map.{position_at}
use Rattle.hd_tiles.specs.Tile.{tile_of}
use Rattle.hd_basin.specs.declared.node.Node.{Node}
use Rattle.hd_basin.specs.Parts.{Pool, HasNode, IsSound, node_of}
use Rattle.hd_basin.specs.Reading.{NodeIs}
use Rattle.hd_basin.proofs.PointRoots.{node-had}
use Rattle.hd_basin.proofs.basins.Basins.node.Goals as goal

-- the node of a key is named at the position of the key
named-at : (pool : Pool) → IsSound pool → (key tile : ℕ) (n : Node) → HasNode pool.parts tile n → n.low.index ≡ key → (p : Pos) → p ≡ position_at pool.size key → (o : Option Node)
    → o ≡ node_of pool.size pool.side pool.parts p → o ≡ Some n
named-at pool sound key tile n had is p at o e =
    e ∙ ap (node_of pool.size pool.side pool.parts) (at ∙ ap (position_at pool.size) (sym is)) ∙ (sound.keyed tile n had).named

pub returns-then-key-size : goal.returns-then-key-size
returns-then-key-size g c = λ tile n had named. (
    let sound = subst IsSound c.self.view_is c.self.invariant in
    let below = (sound.keyed tile n had).in_grid in
    let e : c.size-size.result ≡ c.args.self.now.size = search rules in
    let over = c.if-key-size.true in
    let count : c.size-size.result.points * c.size-size.result.profiles ≡ c.args.self.now.size.profiles * c.args.self.now.size.points = ap (λ (s : Size). s.points * s.profiles) e ∙ omega arith in
    absurd (omega (arith, below, named, over, count)))

pub returns-in_err-node : goal.returns-in_err-node
returns-in_err-node g c =
    let sound = subst IsSound c.self.view_is c.self.invariant in
    let e : c.size-size.result ≡ c.args.self.now.size = search rules in
    let at : c.position_of.result ≡ position_at c.args.self.now.size c.args.key.key = c.position_of.ensures.value ∙ ap (λ (s : Size). position_at s c.args.key.key) e in
    subst (NodeIs c.args.self.now c.args.key.key) (sym c.from_residual.ensures)
    (λ tile n had named. (let none = named-at c.args.self.now sound c.args.key.key tile n had named c.position_of.result at None c.in_err-node.ensures in absurd cc))

pub returns-then-node-key : goal.returns-then-node-key
returns-then-node-key g c = (
  c.if-node-key.true,
  (
    tile_of c.args.self.now.size c.args.self.now.side c.position_of.result,
    node-had c.args.self.now.size c.args.self.now.side c.args.self.now.parts c.position_of.result
        c.in_ok-node.node (sym c.in_ok-node.ensures),
  ),
)

pub returns-else-node-key : goal.returns-else-node-key
returns-else-node-key g c = λ tile n had named. (
    let sound = subst IsSound c.self.view_is c.self.invariant in
    let e : c.size-size.result ≡ c.args.self.now.size = search rules in
    let at : c.position_of.result ≡ position_at c.args.self.now.size c.args.key.key = c.position_of.ensures.value ∙ ap (λ (s : Size). position_at s c.args.key.key) e in
    let same : c.in_ok-node.node ≡ n = same_Some c.in_ok-node.node n (named-at c.args.self.now sound c.args.key.key tile n had named c.position_of.result at
    (Some c.in_ok-node.node) c.in_ok-node.ensures) in
    c.if-node-key.false (ap (λ (x : Node). x.low.index) same ∙ named))
