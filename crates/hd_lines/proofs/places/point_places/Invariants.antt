use Rattle.std.proofs.Common.{◌≡◌, get_or, map, take}
use Rattle.hd_lines.proofs.places.point_places.Given as goal

abbrev pub invariant-points : goal.invariant-points
invariant-points l = l.places.items ≡ map (λ n. get_or l.fn.pits n 0) (take l.index l.fn.regions.numbers)
