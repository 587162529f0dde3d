use Rattle.std.proofs.Common.{◌≡◌, ◌<◌, ◌+◌, ◌*◌}
use Rattle.hd_map.specs.declared.types.Pos.{Pos}
use Rattle.hd_check.specs.Profiles.{IsFirstFrom}
use Rattle.hd_check.specs.Rules.{IsLeak}
use Rattle.hd_check.proofs.closed.leak_in.Given as goal

abbrev pub invariant-loop-x : goal.invariant-loop-x
invariant-loop-x g l = let m = g.G.Heights.map l.surface in record {
  next : IsFirstFrom m.size l.cut (l.row * m.size.points + l.x) l.next;
  none : (r : Pos) → r.y ≡ l.row → r.x < l.x → IsLeak m l.side l.level l.cut l.fn.at r → ⊥;
}
