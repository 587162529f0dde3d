use Rattle.std.proofs.Common.{◌≡◌, ◌+◌, ◌*◌, ℕ, List, subst, arith}
use Rattle.hd_map.specs.Map.{Map}
use Rattle.hd_basin.specs.Built.{IsAsked}
use Rattle.hd_basin.specs.Seams.{AreCandidates}
use Rattle.hd_basin.proofs.seams.note_stretch.Goals as goal

pub returns : goal.returns
returns g c =
    let v = c.args.sight.now in
    let m : Map = g.T.Looked.map v.tiles.now in
    let t : ℕ = v.tiling.side in
    let stamps : List ℕ = g.T.Looked.stamps v.tiles.now in
    let up = c.requires.from in
    let column : c.loop-column.column ≡ c.args.to = omega (arith, up) in
    subst (λ (k : ℕ). AreCandidates m g.S.Side.NAME t v.tile stamps (IsAsked m t v.tile stamps v.parts.now v.frame (c.args.row * v.frame.columns + k)) c.loop-column.all.items)
    column c.loop-column.invariant
