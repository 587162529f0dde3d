use Rattle.std.proofs.Common.{ℕ, List, Option}
use Rattle.hd_map.specs.Map.{Present}
use Rattle.hd_cert.specs.FirstNearer.{LeadsDown}
use Rattle.hd_cert.proofs.FirstNearer.{IsDown}
use Rattle.hd_cert.proofs.trace.path_down.Given as goal

abbrev pub invariant-loop-gone : goal.invariant-loop-gone
invariant-loop-gone g l = let m = g.G.Heights.map l.grid in record {
  present : Present m l.here;
  going : (steps : List (Option ℕ)) (count : ℕ) → LeadsDown m l.residues l.fn.from l.to steps count → IsDown m l.fn.from steps count l.path.items l.here l.gone;
}
