use Rattle.std.proofs.Common.{◌≡◌, ◌*◌, ℕ, List, subst, arith}
use Rattle.hd_map.specs.Map.{Map}
use Rattle.hd_basin.specs.Built.{IsAsked}
use Rattle.hd_basin.specs.Seams.{AreCandidates}
use Rattle.hd_basin.proofs.seams.seams_at.Goals as goal

pub returns : goal.returns
returns g c =
    let v = c.args.sight.now in
    let m : Map = g.T.Looked.map v.tiles.now in
    let stamps : List ℕ = g.T.Looked.stamps v.tiles.now in
    let row : c.loop-row.row ≡ v.frame.rows = omega arith in
    subst (λ (k : ℕ). AreCandidates m g.S.Side.NAME v.tiling.side v.tile stamps (IsAsked m v.tiling.side v.tile stamps v.parts.now v.frame (k * v.frame.columns))
    c.loop-row.all.items) row c.loop-row.invariant
