use Rattle.std.proofs.Common.{arith}
use Rattle.hd_basin.proofs.sinks.lead.Goals as goal

pub loop-place-init : goal.loop-place-init
loop-place-init g c = record { linked = c.requires; led = λ k below. absurd (omega (arith, below)) }

pub returns : goal.returns
returns g c =
    let is = c.loop-place.invariant in
    let whole = is.linked.all.whole in
    record { whole = whole; each = λ k below. is.led k (omega (arith, below, whole, c.loop-place-test.false)) }
