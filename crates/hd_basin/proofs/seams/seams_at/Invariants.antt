use Rattle.std.proofs.Common.{◌*◌}
use Rattle.hd_basin.specs.Built.{IsAsked}
use Rattle.hd_basin.specs.Seams.{AreCandidates}
use Rattle.hd_basin.proofs.seams.seams_at.Given as goal

abbrev pub invariant-loop-row : goal.invariant-loop-row
invariant-loop-row g l =
    let v = l.sight in
    AreCandidates (g.T.Looked.map v.tiles.now) g.S.Side.NAME v.tiling.side v.tile (g.T.Looked.stamps v.tiles.now)
    (IsAsked (g.T.Looked.map v.tiles.now) v.tiling.side v.tile (g.T.Looked.stamps v.tiles.now) v.parts.now v.frame (l.row * v.frame.columns)) l.all.items
