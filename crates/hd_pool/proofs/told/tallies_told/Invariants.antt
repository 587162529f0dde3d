use Rattle.std.proofs.Common.{◌≡◌, map, take}
use Rattle.hd_pool.specs.Told.{tally_told}
use Rattle.hd_pool.proofs.told.tallies_told.Given as goal

-- those so far
abbrev pub invariant-extents : goal.invariant-extents
invariant-extents l = l.tallies ≡ map tally_told (take l.extent-index l.extents)
