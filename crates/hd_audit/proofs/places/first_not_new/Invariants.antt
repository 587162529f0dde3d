use Rattle.hd_audit.proofs.PlaceAt.{ArePlacedBefore}
use Rattle.hd_audit.proofs.places.first_not_new.Given as goal

abbrev pub invariant-loop-k : goal.invariant-loop-k
invariant-loop-k g l = ArePlacedBefore (g.G.Heights.map l.surface) l.lines l.places l.k
