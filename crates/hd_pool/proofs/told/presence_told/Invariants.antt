use Rattle.std.specs.Prelude.{◌≡◌, take}
use Rattle.hd_pool.specs.Told.{presence_told}
use Rattle.hd_pool.proofs.told.presence_told.Given as goal

abbrev pub invariant-extents : goal.invariant-extents
invariant-extents l = l.seen ≡ presence_told (take l.extent-index l.extents)
