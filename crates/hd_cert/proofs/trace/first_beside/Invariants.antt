use Rattle.std.proofs.Common.{◌<◌, ℕ}
use Rattle.hd_check.specs.Rules.{point_of}
use Rattle.hd_cert.specs.FirstNearer.{IsBesideWith}
use Rattle.hd_cert.proofs.trace.first_beside.Given as goal

abbrev pub invariant-loop-k : goal.invariant-loop-k
invariant-loop-k g l = (i : ℕ) → i < l.k → IsBesideWith (g.G.Heights.map l.grid) l.residues l.residue l.at (point_of l.round i) → ⊥
