use Rattle.hd_steep.specs.KeyRows.{IsEmpty}
use Rattle.hd_steep.proofs.row.Row.empty.Given as goal

-- the places so far
abbrev pub invariant-loop-place : goal.invariant-loop-place
invariant-loop-place g l = IsEmpty g.L.Lane.code l._place l.keys.items
