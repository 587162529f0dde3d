use Rattle.std.proofs.Common.{◌≡◌, ◌∙◌, Option, Some, ap, slice_get, sym}
use Rattle.hd_basin.specs.declared.part.Part.{Part}
use Rattle.hd_basin.specs.Parts.{Pool}
use Rattle.hd_basin.specs.Spots.{node_in, node_named}
use Rattle.hd_basin.proofs.NodeRoots.{onward-inside, onward-labelled}
use Rattle.hd_basin.proofs.Spotted.{spot-had}
use Rattle.hd_basin.proofs.basins.Basins.onward.Goals as goal

pub spot_at-requires : goal.spot_at-requires
spot_at-requires g c =
    let pool = c.args.self.now in
    let n = c.node-node.result in
    let at : slice_get pool.parts c.args.spot.tile ≡ Some c.part.result = ap (λ (p : Pool). slice_get p.parts c.args.spot.tile) (sym c.self.view_is) ∙ c.part.ensures in
    let named : node_named pool.parts c.args.spot ≡ Some n = ap (λ (o : Option Part). node_in o c.args.spot.number) at ∙ c.node-node.ensures in
    onward-inside g.S.Side.NAME pool c.args.spot.tile n (spot-had pool.parts c.args.spot n named) c.in-Some.at c.in-Some.is c.requires.map

pub unreachable-requires-in-None : goal.unreachable-requires-in-None
unreachable-requires-in-None g c =
    let pool = c.args.self.now in
    let n = c.node-node.result in
    let at : slice_get pool.parts c.args.spot.tile ≡ Some c.part.result = ap (λ (p : Pool). slice_get p.parts c.args.spot.tile) (sym c.self.view_is) ∙ c.part.ensures in
    let named : node_named pool.parts c.args.spot ≡ Some n = ap (λ (o : Option Part). node_in o c.args.spot.number) at ∙ c.node-node.ensures in
    let had = spot-had pool.parts c.args.spot n named in
    onward-labelled g.S.Side.NAME pool c.args.spot.tile n had c.in-Some.at c.in-Some.is c.requires.map
    (onward-inside g.S.Side.NAME pool c.args.spot.tile n had c.in-Some.at c.in-Some.is c.requires.map) c.in-None.ensures
