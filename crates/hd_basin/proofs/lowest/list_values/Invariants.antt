use Rattle.std.proofs.Common.{◌≡◌, map}
use Rattle.std.specs.Map.Iter.{deref_pair}
use Rattle.hd_basin.proofs.lowest.list_values.Given as goal

abbrev pub invariant-entries : goal.invariant-entries
invariant-entries l = l.seams.items ≡ map (λ e. e.1) (map deref_pair l.yielded)
