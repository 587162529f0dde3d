use Rattle.std.proofs.Common.{◌∙◌, subst, ℕ, List, Result, Ok, Err}
use Rattle.std.specs.Prelude.{OnErr}
use Rattle.std.specs.Io.KnownBytes.{Appends}
use Rattle.hd_base.specs.Told.{AppendsPart}
use Rattle.hd_run.proofs.SavedPieces.{AreWritten-all, AreWritten-part, AreWritten-piece}
use Rattle.hd_run.proofs.save.write_pieces.Goals as goal

-- what holds anyway holds of an error
told : {T E P : Type 0} (r : Result T E) → P → OnErr r P
told (Ok x) h = tt
told (Err e) h = h

pub pieces-preserved : goal.pieces-preserved
pieces-preserved g c =
    let old = g.V.Sink.written c.args.saved.now in
    let mid = g.V.Sink.written c.pieces.saved in
    let new = g.V.Sink.written c.write_all.new.sink in
    let written = subst (λ (piece : List ℕ). Appends mid new piece) c.piece.ensures c.in_ok-write_all.ensures.all in
    record {
      open_still = c.in_ok-write_all.ensures.open;
      written = AreWritten-piece old mid new c.args.pieces.now.left c.pieces.pieces.left c.advance.new.self.piece c.advance.new.self.left c.advance.ensures.joined written c.pieces.invariant.written;
      faults = c.in_ok-write_all.ensures.cause.accepted ∙ c.pieces.invariant.faults;
    }

pub returns-in_err-write_all-clause-part : goal.returns-in_err-write_all-clause-part
returns-in_err-write_all-clause-part g c =
    let old = g.V.Sink.written c.args.saved.now in
    let mid = g.V.Sink.written c.pieces.saved in
    let new = g.V.Sink.written c.write_all.new.sink in
    let part = subst (λ (piece : List ℕ). AppendsPart mid new piece) c.piece.ensures c.in_err-write_all.ensures.part in
    told c.from_residual.result
    (AreWritten-part old mid new c.args.pieces.now.left c.pieces.pieces.left c.advance.new.self.piece c.advance.new.self.left c.advance.ensures.joined part c.pieces.invariant.written)

pub returns-clause-all : goal.returns-clause-all
returns-clause-all g c =
    AreWritten-all (g.V.Sink.written c.args.saved.now) (g.V.Sink.written c.pieces.saved) c.args.pieces.now.left c.pieces.pieces.left
    (c.advance.ensures.none c.pieces-test.false) c.pieces.invariant.written
