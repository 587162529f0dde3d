use Rattle.std.proofs.Common.{◌≡◌, map, take}
use Rattle.hd_lines.specs.Places.{place_of_owner}
use Rattle.hd_lines.proofs.places.pit_places.Given as goal

abbrev pub invariant-pits : goal.invariant-pits
invariant-pits l = l.places.items ≡ map (place_of_owner l.fn.regions.numbers l.fn.kept) (take l.owned-index l.owners)
