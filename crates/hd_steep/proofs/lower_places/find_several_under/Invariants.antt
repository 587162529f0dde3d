use Rattle.std.proofs.Common.{◌<◌, ℕ}
use Rattle.std.specs.Bool.{OnFalse}
use Rattle.hd_steep.specs.LowerPlaces.{lower_round}
use Rattle.hd_steep.specs.Ring.{is_marked, marks_of, IsOneAtMost}
use Rattle.hd_steep.proofs.lower_places.find_several_under.Given as goal

-- the columns so far
abbrev pub invariant-loop-x : goal.invariant-loop-x
invariant-loop-x l = (k : ℕ) → k < l.x → OnFalse (is_marked l.several k) (IsOneAtMost (marks_of l.adjacency (lower_round l.lower k)))
