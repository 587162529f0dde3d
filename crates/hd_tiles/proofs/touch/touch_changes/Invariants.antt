use Rattle.hd_map.specs.Encoding.{values_of}
use Rattle.hd_tiles.proofs.Profiles.{AreToldTo}
use Rattle.hd_tiles.proofs.touch.touch_changes.Given as goal

abbrev pub invariant-loop-part : goal.invariant-loop-part
invariant-loop-part g l =
    AreToldTo (g.G.Heights.map l.grid) l.y (values_of g.L.Lane.code l.row) l.tiling.side l.tiling.size.points l.stamp l.fn.stamps.items l.part l.some l.stamps.items
