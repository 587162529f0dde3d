use Rattle.std.proofs.Common.{◌≡◌, ◌<◌, ◌≤◌, ◌+◌, ◌-◌, ◌*◌, ◌∙◌, length, inr, ap, sym, subst, arith}
use Rattle.std.proofs.lemmas.Bool.{OnTrue_at, OnTrue_from}
use Rattle.std.proofs.lemmas.List.{with_items_is}
use Rattle.std.specs.Vec.{with_items}
use Rattle.hd_map.specs.declared.types.Size.{Size}
use Rattle.hd_steep.specs.declared.row.Row.{Row}
use Rattle.hd_steep.specs.KeyRows.{AreKeysOf, IsEmpty}
use Rattle.hd_steep.proofs.KeyRows.{row_of_keys, row_of_none}
use Rattle.hd_steep.proofs.row.Row.take.Goals as goal

pub returns-then-y-size-clause-row : goal.returns-then-y-size-clause-row
returns-then-y-size-clause-row g c = OnTrue_from c.fill_keys.result _ (λ near.
    let m = g.G.Heights.map c.args.grid.now in
    let code = g.L.Lane.code in
    let side = g.S.Side.NAME in
    let y = c.args.y in
    let keys = c.fill_keys.new.keys in
    let row : Row g.row.L.Denot = record { first = y * c.size-size.result.points; keys = with_items c.args.self.now.keys keys } in
    let are : AreKeysOf code side m y keys = OnTrue_at {P = AreKeysOf code side m y keys} near c.fill_keys.ensures.keys in
    let items : row.keys.items ≡ keys = with_items_is c.args.self.now.keys keys (omega arith) in
    let inside : y < m.size.profiles = subst (λ (s : Size). y < s.profiles) c.size-size.ensures c.if-y-size.true in
    row_of_keys code side m y row inside (ap (λ (s : Size). y * s.points) c.size-size.ensures) (subst (AreKeysOf code side m y) (sym items) are))

pub returns-else-y-size-clause-row : goal.returns-else-y-size-clause-row
returns-else-y-size-clause-row g c =
    let m = g.G.Heights.map c.args.grid.now in
    let code = g.L.Lane.code in
    let side = g.S.Side.NAME in
    let y = c.args.y in
    let keys = c.fill_missing.new.keys in
    let row : Row g.row.L.Denot = record { first = y * c.size-size.result.points; keys = with_items c.args.self.now.keys keys } in
    let items : row.keys.items ≡ keys = with_items_is c.args.self.now.keys keys (omega arith) in
    let past : m.size.profiles ≤ y = subst (λ (s : Size). s.profiles ≤ y) c.size-size.ensures c.if-y-size.false in
    let room = c.requires.room.whole in
    let long : length c.deref_mut-else-y-size.result.now ≡ m.size.points + 2 = omega (arith, room) in
    let empty : IsEmpty code (m.size.points + 2) row.keys.items = subst (IsEmpty code (m.size.points + 2)) (sym items) (subst (λ n. IsEmpty code n keys) long c.fill_missing.ensures) in
    row_of_none code side m (y + 1) row (inr (omega (arith, past))) (ap (λ (s : Size). y * s.points) c.size-size.ensures ∙ ap (λ i. i * m.size.points) (let e : y ≡ y + 1 - 1 = omega arith in e)) empty
