use Rattle.hd_steep.proofs.KeyRows.{empty_none, empty_push}
use Rattle.hd_steep.proofs.row.Row.empty.Goals as goal

pub loop-place-init : goal.loop-place-init
loop-place-init g c = rw c.in_ok-keys.ensures.items (empty_none g.L.Lane.code)

pub loop-place-preserved : goal.loop-place-preserved
loop-place-preserved g c =
    rw (c.in_ok-push.ensures.items, c.missing.ensures) (empty_push g.L.Lane.code c.loop-place._place c.loop-place.keys.items c.loop-place.invariant)
