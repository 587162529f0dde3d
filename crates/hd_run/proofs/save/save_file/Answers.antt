use Rattle.std.proofs.Common.{◌∙◌, List, ℕ, inl, inr, refl, sym, ap, subst}
use Rattle.std.specs.Io.KnownBytes.{Appends}
use Rattle.hd_base.specs.Told.{AppendsStart}
use Rattle.hd_sdf_write.specs.Pieces.{PiecesState}
use Rattle.hd_run.specs.Saving.{emptied}
use Rattle.hd_run.proofs.Checks.{OnErr-holds, OnOk-holds}
use Rattle.hd_run.proofs.Savings.{emptied-all, emptied-cut, emptied-open, Rose-later, AppendsStart-whole}
use Rattle.hd_run.proofs.save.save_file.Goals as goal

pub returns-in_default : goal.returns-in_default
returns-in_default g c = (refl, refl)

pub returns-then-is_err : goal.returns-then-is_err
returns-then-is_err g c =
    let failed = sym c.is_err.ensures.value ∙ c.if-is_err.true in
    record { written = inl (OnErr-holds c.open.result failed c.open.ensures.refused); count = OnErr-holds c.open.result failed c.open.ensures.cause.failed }

pub returns-then-is_err-2 : goal.returns-then-is_err-2
returns-then-is_err-2 g c =
    let old = g.V.Sink.written c.args.saved.now in
    let mid = g.V.Sink.written c.open.new.self in
    let new = g.V.Sink.written c.write_pieces.new.saved in
    let opened = sym c.is_err.ensures.value ∙ c.if-is_err.false in
    let failed = sym c.is_err-2.ensures.value ∙ c.if-is_err-2.true in
    let begun = emptied-cut old mid new c.in-Ok.pieces.left (emptied-open old mid (OnOk-holds c.open.result opened c.open.ensures.empty))
    (OnErr-holds c.write_pieces.result failed c.write_pieces.ensures.part) in
    record {
      written = inr (subst (λ (text : List ℕ). AppendsStart (emptied old) new text) (ap (λ (p : PiecesState). p.left) c.in-Ok.ensures) begun);
      count = Rose-later _ _ _ (OnOk-holds c.open.result opened c.open.ensures.cause.accepted) (OnErr-holds c.write_pieces.result failed c.write_pieces.ensures.cause.failed);
    }

pub returns-then-is_err-3 : goal.returns-then-is_err-3
returns-then-is_err-3 g c =
    let old = g.V.Sink.written c.args.saved.now in
    let mid = g.V.Sink.written c.open.new.self in
    let new = g.V.Sink.written c.write_pieces.new.saved in
    let last = g.V.Sink.written c.flush.new.self in
    let opened = sym c.is_err.ensures.value ∙ c.if-is_err.false in
    let written = sym c.is_err-2.ensures.value ∙ c.if-is_err-2.false in
    let failed = sym c.is_err-3.ensures.value ∙ c.if-is_err-3.true in
    let all = emptied-all old mid new last c.in-Ok.pieces.left (emptied-open old mid (OnOk-holds c.open.result opened c.open.ensures.empty))
    (OnOk-holds c.write_pieces.result written c.write_pieces.ensures.all) c.flush.ensures.written in
    record {
      written = inr (AppendsStart-whole (emptied old) last _ (subst (λ (text : List ℕ). Appends (emptied old) last text) (ap (λ (p : PiecesState). p.left) c.in-Ok.ensures) all));
      count = Rose-later _ _ _ (OnOk-holds c.write_pieces.result written c.write_pieces.ensures.cause.accepted ∙ OnOk-holds c.open.result opened c.open.ensures.cause.accepted)
          (OnErr-holds c.flush.result failed c.flush.ensures.cause.failed);
    }

pub returns : goal.returns
returns g c =
    let old = g.V.Sink.written c.args.saved.now in
    let mid = g.V.Sink.written c.open.new.self in
    let new = g.V.Sink.written c.write_pieces.new.saved in
    let last = g.V.Sink.written c.flush.new.self in
    let opened = sym c.is_err.ensures.value ∙ c.if-is_err.false in
    let written = sym c.is_err-2.ensures.value ∙ c.if-is_err-2.false in
    let flushed = sym c.is_err-3.ensures.value ∙ c.if-is_err-3.false in
    let all = emptied-all old mid new last c.in-Ok.pieces.left (emptied-open old mid (OnOk-holds c.open.result opened c.open.ensures.empty))
    (OnOk-holds c.write_pieces.result written c.write_pieces.ensures.all) c.flush.ensures.written in
    record {
      written = subst (λ (text : List ℕ). Appends (emptied old) last text) (ap (λ (p : PiecesState). p.left) c.in-Ok.ensures) all;
      flushed_all = OnOk-holds c.flush.result flushed c.flush.ensures.flushed;
      count = OnOk-holds c.flush.result flushed c.flush.ensures.cause.accepted ∙ OnOk-holds c.write_pieces.result written c.write_pieces.ensures.cause.accepted
          ∙ OnOk-holds c.open.result opened c.open.ensures.cause.accepted;
    }
