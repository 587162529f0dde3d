use Rattle.std.proofs.Common.{◌<◌, ℕ}
use Rattle.std.specs.Prelude.{MatchOption}
use Rattle.hd_audit.specs.Lines.{line_at}
use Rattle.hd_audit.specs.Rules.{IsEarlierNeighbour}
use Rattle.hd_audit.proofs.parents.first_stray.Given as goal

abbrev pub invariant-loop-k : goal.invariant-loop-k
invariant-loop-k g l = let m = g.G.Heights.map l.surface in (i : ℕ) → i < l.k → MatchOption (line_at l.lines i).parent (Unit {0}) (IsEarlierNeighbour m l.lines i)
