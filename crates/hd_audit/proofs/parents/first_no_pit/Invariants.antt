use Rattle.std.proofs.Common.{◌≡◌, ◌<◌, ℕ, None}
use Rattle.hd_audit.specs.Lines.{line_at}
use Rattle.hd_audit.specs.Rules.{IsKeptPit}
use Rattle.hd_audit.proofs.parents.first_no_pit.Given as goal

abbrev pub invariant-loop-k : goal.invariant-loop-k
invariant-loop-k g l = let m = g.G.Heights.map l.surface in (i : ℕ) → i < l.k → (line_at l.lines i).parent ≡ None → IsKeptPit m l.side (line_at l.lines i)
