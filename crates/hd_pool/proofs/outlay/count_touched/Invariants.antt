use Rattle.std.specs.Prelude.{◌≡◌, take}
use Rattle.hd_pool.specs.Outlay.{touched_after}
use Rattle.hd_pool.proofs.outlay.count_touched.Given as goal

abbrev pub invariant-tiles : goal.invariant-tiles
invariant-tiles g l = l.touched ≡ touched_after l.fn.changes (take l.tile l.tiles.stamps.items)
