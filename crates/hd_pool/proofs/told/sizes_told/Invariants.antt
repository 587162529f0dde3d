use Rattle.std.proofs.Common.{◌≡◌, map, take}
use Rattle.hd_pool.specs.Told.{size_told}
use Rattle.hd_pool.proofs.told.sizes_told.Given as goal

-- those so far
abbrev pub invariant-extents : goal.invariant-extents
invariant-extents l = l.sizes ≡ map size_told (take l.extent-index l.extents)
