use Rattle.std.proofs.Common.{◌≡◌, ◌+◌, ◌-◌, ◌*◌, inl, subst, arith}
use Rattle.hd_map.specs.declared.types.Size.{Size}
use Rattle.hd_steep.specs.KeyRows.{IsEmpty}
use Rattle.hd_steep.proofs.KeyRows.{row_of_none}
use Rattle.hd_steep.proofs.rolling.row_before.Goals as goal

pub returns-then-y-eq0 : goal.returns-then-y-eq0
returns-then-y-eq0 g c =
    let m = g.G.Heights.map c.args.grid.now in
    let y = c.args.y in
    let row = c.in_ok-row.row in
    let before : y - 1 ≡ 0 = omega arith in
    let first : row.first ≡ (y - 1) * m.size.points = let zero = c.in_ok-row.ensures.first in rw before (omega (arith, zero)) in
    row_of_none g.L.Lane.code g.S.Side.NAME m y row (inl (omega arith)) first
    (subst (λ (s : Size). IsEmpty g.L.Lane.code (s.points + 2) row.keys.items) c.size.ensures c.in_ok-row.ensures.keys)
