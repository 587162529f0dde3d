use Rattle.std.proofs.Common.{◌≡◌, sym, ◌∙◌, ap, rules}
use Rattle.hd_map.specs.declared.types.Size.{Size}
use Rattle.hd_map.specs.Map.{position_at}
use Rattle.hd_basin.proofs.PointRoots.{way-start, way-inside, way-more, way-smaller, way-labelled, way-end}
use Rattle.hd_basin.proofs.basins.Basins.label.Goals as goal

pub walk-init : goal.walk-init
walk-init g c = way-start g.S.Side.NAME c.args.self.now c.args.at c.in_ok-node.node c.requires.in_grid (sym c.in_ok-node.ensures)

pub returns-in_default : goal.returns-in_default
returns-in_default g c = way-end g.S.Side.NAME c.args.self.now c.args.at c.position_of.result c.walk.node c.walk.invariant c.in_default.is
    (let e : c.size.result ≡ c.args.self.now.size = search rules in c.position_of.ensures.value ∙ ap (λ (s : Size). position_at s c.walk.node.low.index) e)

pub node_at-requires-in-walk : goal.node_at-requires-in-walk
node_at-requires-in-walk g c = way-inside g.S.Side.NAME c.args.self.now c.args.at c.walk.node c.in-Some.onward c.walk.invariant c.in-Some.is c.requires.pool

pub walk-smaller : goal.walk-smaller
walk-smaller g c =
    let inside = way-inside g.S.Side.NAME c.args.self.now c.args.at c.walk.node c.in-Some.onward c.walk.invariant c.in-Some.is c.requires.pool in
    way-smaller g.S.Side.NAME c.args.self.now c.args.at c.walk.node c.in-Some.onward c.walk.invariant c.in-Some.is c.requires.pool c.in-Some-node_at.next inside (sym c.in-Some-node_at.ensures)

pub walk-preserved : goal.walk-preserved
walk-preserved g c =
    let inside = way-inside g.S.Side.NAME c.args.self.now c.args.at c.walk.node c.in-Some.onward c.walk.invariant c.in-Some.is c.requires.pool in
    way-more g.S.Side.NAME c.args.self.now c.args.at c.walk.node c.in-Some.onward c.walk.invariant c.in-Some.is c.in-Some-node_at.next inside (sym c.in-Some-node_at.ensures)

pub unreachable-requires : goal.unreachable-requires
unreachable-requires g c =
    let inside = way-inside g.S.Side.NAME c.args.self.now c.args.at c.walk.node c.in-Some.onward c.walk.invariant c.in-Some.is c.requires.pool in
    way-labelled g.S.Side.NAME c.args.self.now c.args.at c.walk.node c.in-Some.onward c.walk.invariant c.in-Some.is c.requires.pool inside (sym c.in-None.ensures)
