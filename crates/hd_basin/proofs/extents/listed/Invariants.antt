use Rattle.std.proofs.Common.{◌≡◌, Some, map, take}
use Rattle.hd_basin.proofs.extents.listed.Given as goal

abbrev pub invariant-extents : goal.invariant-extents
invariant-extents l = map Some l.list ≡ take l.extent-index l.extents
