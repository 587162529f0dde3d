use Rattle.std.proofs.Common.{◌≡◌, map, take}
use Rattle.hd_steep.specs.Passes.{place_of_label}
use Rattle.hd_steep.proofs.passing.root_places.Given as goal

abbrev pub invariant-loop-label : goal.invariant-loop-label
invariant-loop-label l = l.places.items ≡ map place_of_label (take l.label-index l.labels)
