use Rattle.std.proofs.Common.{◌<◌, ℕ}
use Rattle.hd_map.specs.Map.{Present, position_at}
use Rattle.hd_audit.specs.Lines.{IsListed}
use Rattle.hd_audit.proofs.places.first_unlisted.Given as goal

abbrev pub invariant-loop-index : goal.invariant-loop-index
invariant-loop-index g l = let m = g.G.Heights.map l.surface in (i : ℕ) → i < l.index → Present m (position_at m.size i) → IsListed l.lines i
