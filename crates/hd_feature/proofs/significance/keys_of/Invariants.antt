use Rattle.std.proofs.Common.{◌≡◌, take, map}
use Rattle.hd_feature.specs.Cut.{key_of}
use Rattle.hd_feature.proofs.significance.keys_of.Given as goal

abbrev pub invariant-regions : goal.invariant-regions
invariant-regions l = l.keys.items ≡ map key_of (take l.region-index l.regions)
