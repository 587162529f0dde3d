use Rattle.hd_basin.specs.Built.{IsAskedNext}
use Rattle.hd_basin.specs.Seams.{AreCandidates}
use Rattle.hd_basin.proofs.seams.note_beside.Given as goal

abbrev pub invariant-places : goal.invariant-places
invariant-places g l =
    let v = l.sight in
    AreCandidates (g.T.Looked.map v.tiles.now) g.S.Side.NAME v.tiling.side v.tile (g.T.Looked.stamps v.tiles.now)
    (IsAskedNext (g.T.Looked.map v.tiles.now) v.tiling.side v.tile (g.T.Looked.stamps v.tiles.now) v.parts.now v.frame l.fn._place l.beside l.place) l.all.items
