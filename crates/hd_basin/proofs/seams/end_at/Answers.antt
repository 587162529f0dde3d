use Rattle.std.proofs.Common.{◌≡◌, ℕ, List, Option, Some, None, slice_get, sym, ◌∙◌, ap, subst, rules}
use Rattle.hd_map.specs.declared.types.Size.{Size}
use Rattle.hd_map.specs.Map.{Map}
use Rattle.hd_tiles.specs.Tile.{tile_of}
use Rattle.hd_basin.specs.declared.node.Node.{Node}
use Rattle.hd_basin.specs.declared.part.Part.{Part}
use Rattle.hd_basin.specs.Basin.{IsLabel}
use Rattle.hd_basin.specs.Built.{EndIs}
use Rattle.hd_basin.specs.Parts.{IsFresh, low_of, node_at, place_in_tile}
use Rattle.hd_basin.proofs.Candidates.{other-label}
use Rattle.hd_basin.proofs.seams.end_at.Goals as goal

pub returns : goal.returns
returns g c =
    let m : Map = g.T.Looked.map c.args.sight.now.tiles.now in
    let t : ℕ = c.args.sight.now.tiling.side in
    let stamps : List ℕ = g.T.Looked.stamps c.args.sight.now.tiles.now in
    let parts : List Part = c.args.sight.now.parts.now in
    let number : ℕ = c.tile_of-number.result in
    let other : Part = c.part-other.result in
    let number_is : number ≡ tile_of m.size t c.args.at = c.tile_of-number.ensures.value ∙ ap (λ (s : Size). tile_of s t c.args.at) c.requires.sees.size in
    let place_is : c.place_in_tile.result ≡ place_in_tile m.size t c.args.at = c.place_in_tile.ensures ∙ ap (λ (s : Size). place_in_tile s t c.args.at) c.requires.sees.size in
    let at : slice_get parts number ≡ Some other = c.part-other.ensures in
    let known : c.seen.result ≡ Some c.stamp-present.result = search rules in
    let seen : other.seen ≡ Some c.stamp-present.result = sym c.seen.ensures ∙ known in
    let fresh : IsFresh stamps parts number = record { stamp = c.stamp-present.result; part = other; now = c.stamp-present.ensures; at = at; seen = seen } in
    let here : IsFresh stamps parts (tile_of m.size t c.args.at) = subst (IsFresh stamps parts) number_is fresh in
    let label = c.requires.sees.sight.fresh c.args.at c.requires.at here in
    let named : IsLabel m g.S.Side.NAME t c.args.at (low_of (node_at (Some other) c.place_in_tile.result)) = subst (IsLabel m g.S.Side.NAME t c.args.at)
    (other-label m.size t parts c.args.at number c.place_in_tile.result other number_is place_is at) label in
    let own : IsLabel m g.S.Side.NAME t c.args.at (low_of (Some c.in_ok-node.node)) = subst (λ (o : Option Node). IsLabel m g.S.Side.NAME t c.args.at (low_of o)) (sym c.in_ok-node.ensures) named in
    record { known = here; present = own.0; sink = own.1; with_is = number_is; stamp = c.stamp-present.ensures }

pub returns-in_err-node : goal.returns-in_err-node
returns-in_err-node g c =
    let m : Map = g.T.Looked.map c.args.sight.now.tiles.now in
    let t : ℕ = c.args.sight.now.tiling.side in
    let stamps : List ℕ = g.T.Looked.stamps c.args.sight.now.tiles.now in
    let parts : List Part = c.args.sight.now.parts.now in
    let number : ℕ = c.tile_of-number.result in
    let other : Part = c.part-other.result in
    let number_is : number ≡ tile_of m.size t c.args.at = c.tile_of-number.ensures.value ∙ ap (λ (s : Size). tile_of s t c.args.at) c.requires.sees.size in
    let place_is : c.place_in_tile.result ≡ place_in_tile m.size t c.args.at = c.place_in_tile.ensures ∙ ap (λ (s : Size). place_in_tile s t c.args.at) c.requires.sees.size in
    let at : slice_get parts number ≡ Some other = c.part-other.ensures in
    let known : c.seen.result ≡ Some c.stamp-present.result = search rules in
    let seen : other.seen ≡ Some c.stamp-present.result = sym c.seen.ensures ∙ known in
    let fresh : IsFresh stamps parts number = record { stamp = c.stamp-present.result; part = other; now = c.stamp-present.ensures; at = at; seen = seen } in
    let here : IsFresh stamps parts (tile_of m.size t c.args.at) = subst (IsFresh stamps parts) number_is fresh in
    let label = c.requires.sees.sight.fresh c.args.at c.requires.at here in
    let named : IsLabel m g.S.Side.NAME t c.args.at (low_of (node_at (Some other) c.place_in_tile.result)) = subst (IsLabel m g.S.Side.NAME t c.args.at)
    (other-label m.size t parts c.args.at number c.place_in_tile.result other number_is place_is at) label in
    let none : IsLabel m g.S.Side.NAME t c.args.at (low_of None) = subst (λ (o : Option Node). IsLabel m g.S.Side.NAME t c.args.at (low_of o)) (sym c.in_err-node.ensures) named in
    subst (EndIs m g.S.Side.NAME t stamps parts c.args.at) (sym c.from_residual.ensures) (λ known present. none present)
