use Rattle.std.proofs.Common.{◌≤◌, ℕ, length, sym, ◌∙◌, arith, length-take}
use Rattle.std.proofs.lemmas.List.{take-append-le}
use Rattle.hd_sdf_read.specs.Reader.{StandsFor}
use Rattle.hd_run.specs.Limits.{surface_limit}
use Rattle.hd_run.proofs.FedPieces.{TakesFew-fed, HasFed-more, OnOk-holds}
use Rattle.hd_run.proofs.inputs.feed_all.Goals as goal

pub returns-then-is_err-clause-few : goal.returns-then-is_err-clause-few
returns-then-is_err-clause-few g c = λ bytes told.
    TakesFew-fed StandsFor bytes _ _ _ _ surface_limit c.pieces.count c.in-Ok.taken c.read.new.into told c.pieces.invariant.fed c.in-Ok.ensures.bytes.0
    (omega (arith, c.read.auto.into, length-take c.min-room.result c.pieces.piece))

pub returns-then-count-gt-SURFACE_LIMIT-clause-few : goal.returns-then-count-gt-SURFACE_LIMIT-clause-few
returns-then-count-gt-SURFACE_LIMIT-clause-few g c = λ bytes told.
    TakesFew-fed StandsFor bytes _ _ _ _ surface_limit c.pieces.count c.in-Ok.taken c.read.new.into told c.pieces.invariant.fed c.in-Ok.ensures.bytes.0
    (omega (arith, c.read.auto.into, length-take c.min-room.result c.pieces.piece))

pub pieces-preserved : goal.pieces-preserved
pieces-preserved g c =
    let into = c.read.auto.into in
    let room = length-take c.min-room.result c.pieces.piece in
    let counted = c.pieces.invariant.counted in
    let bound : c.in-Ok.taken ≤ length c.read.new.into = c.in-Ok.ensures.bound.0 in
    let stands = OnOk-holds c.feed_piece.result (sym c.is_err.ensures.value ∙ c.if-is_err.false) c.feed_piece.ensures.stands c.pieces.invariant.fed.got c.pieces.invariant.fed.stands in
    record {
      open_still = c.in-Ok.ensures.open;
      within = omega arith;
      fed = HasFed-more StandsFor _ _ _ _ _ c.pieces.count c.in-Ok.taken c.read.new.into c.pieces.invariant.fed c.in-Ok.ensures.bytes.0 bound (rw take-append-le at stands);
      counted = omega (arith, c.feed_piece.ensures.fed, length-take {A = ℕ});
      faults = c.in-Ok.ensures.cause.accepted ∙ c.pieces.invariant.faults;
    }
