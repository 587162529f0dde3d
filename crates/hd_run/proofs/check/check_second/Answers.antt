use Rattle.std.proofs.Common.{◌∙◌, ℕ, List, true, inl, refl, subst, sym}
use Rattle.std.specs.Prelude.{⊤}
use Rattle.std.specs.Io.KnownBytes.{Appends}
use Rattle.std.proofs.KnownBytes.{Keeps-refl}
use Rattle.hd_base.specs.Told.{AppendsPart}
use Rattle.hd_sdf_read.specs.FileOf.{file_of}
use Rattle.hd_run.specs.Texts.{accepted_text}
use Rattle.hd_run.specs.declared.stop.Stop.TheVariants.{ReadFault, WriteFault}
use Rattle.hd_run.proofs.Checks.{IsCheck-accepts, IsCheck-cut_short, IsCheck-judge_stops, IsCheck-second_stops, OnErr-holds, OnOk-holds}
use Rattle.hd_run.proofs.Stops.{HasRunStop-judged, ReadFault-moved, ok≢err, HasReadStop-ok, HasReadStop-moved, HasRunStop-second, write≢read}
use Rattle.hd_run.proofs.check.check_second.Goals as goal

pub returns-in-Err-judge-clause-told : goal.returns-in-Err-judge-clause-told
returns-in-Err-judge-clause-told g c = λ bytes second judged named.
    let read = c.in-Ok.ensures.told second named in
    IsCheck-judge_stops bytes second (file_of c.args.file.now) judged (record { saddles = c.verdict_is_determined.ensures; prunings = c.pruning_verdict_is_determined.ensures })
    read.0 ⊤ c.in-Err-judge.stop (g.W.Sink.written c.args.out.now)
    (c.in-Err-judge.ensures.judged second read.1)

pub returns-then-is_err-clause-told : goal.returns-then-is_err-clause-told
unfolding accepted_text
returns-then-is_err-clause-told g c = λ bytes second judged named.
    let read = c.in-Ok.ensures.told second named in
    let old = g.W.Sink.written c.args.out.now in
    let new = g.W.Sink.written c.write_all.new.sink in
    let failed = sym c.is_err.ensures.value ∙ c.if-is_err.true in
    IsCheck-cut_short bytes second (file_of c.args.file.now) judged (record { saddles = c.verdict_is_determined.ensures; prunings = c.pruning_verdict_is_determined.ensures }) read.0 old new
    (c.in-Ok-judge.ensures.judged second read.1)
    (subst (λ (text : List ℕ). AppendsPart old new text) c.as_bytes.ensures.value (OnErr-holds c.write_all.result failed c.write_all.ensures.part))

pub returns-then-is_err-clause-cause : goal.returns-then-is_err-clause-cause
returns-then-is_err-clause-cause g c = λ surface saved still kept.
    let failed = sym c.is_err.ensures.value ∙ c.if-is_err.true in
    record {
      read = λ e. absurd (write≢read _ refl e);
      write = λ e. (
        still,
        HasReadStop-ok _ _ c.in-Ok.reader c.in-Ok.ensures.cause,
        inl (OnErr-holds c.write_all.result failed c.write_all.ensures.cause.failed, kept),
      );
      other = λ not_read not_write. absurd (not_write refl);
    }

pub returns-clause-told : goal.returns-clause-told
unfolding accepted_text
returns-clause-told g c = λ bytes second judged named.
    let read = c.in-Ok.ensures.told second named in
    let old = g.W.Sink.written c.args.out.now in
    let new = g.W.Sink.written c.write_all.new.sink in
    let fine = sym c.is_err.ensures.value ∙ c.if-is_err.false in
    IsCheck-accepts bytes second (file_of c.args.file.now) judged (record { saddles = c.verdict_is_determined.ensures; prunings = c.pruning_verdict_is_determined.ensures }) read.0 old new
    (c.in-Ok-judge.ensures.judged second read.1)
    (subst (λ (text : List ℕ). Appends old new text) c.as_bytes.ensures.value (OnOk-holds c.write_all.result fine c.write_all.ensures.all))

pub returns-clause-cause : goal.returns-clause-cause
returns-clause-cause g c = λ surface saved still kept.
    let fine = sym c.is_err.ensures.value ∙ c.if-is_err.false in
    record {
      read = λ e. absurd (ok≢err true ReadFault e);
      write = λ e. absurd (ok≢err true WriteFault e);
      other = λ not_read not_write. (
        still,
        HasReadStop-ok _ _ c.in-Ok.reader c.in-Ok.ensures.cause,
        OnOk-holds c.write_all.result fine c.write_all.ensures.cause.accepted,
        kept,
      );
    }

pub returns-in-Err-clause-open : goal.returns-in-Err-clause-open
returns-in-Err-clause-open g c = c.requires.open

pub returns-in-Err-clause-told : goal.returns-in-Err-clause-told
returns-in-Err-clause-told g c = λ bytes second judged named. IsCheck-second_stops bytes second (file_of c.args.file.now) judged c.in-Err.stop (g.W.Sink.written c.args.out.now)
    (c.in-Err.ensures.told second named)

pub returns-in-Err-clause-unwritten : goal.returns-in-Err-clause-unwritten
returns-in-Err-clause-unwritten g c = λ e. Keeps-refl (g.W.Sink.written c.args.out.now)

pub returns-in-Err-clause-certificate_left : goal.returns-in-Err-clause-certificate_left
returns-in-Err-clause-certificate_left g c = c.in-Err.ensures.left

pub returns-in-Err-clause-failed : goal.returns-in-Err-clause-failed
returns-in-Err-clause-failed g c = (HasReadStop-moved _ _ c.in-Err.stop c.in-Err.ensures.cause).fault

pub returns-in-Err-clause-cause : goal.returns-in-Err-clause-cause
returns-in-Err-clause-cause g c = λ surface saved still kept. HasRunStop-second surface _ _ saved c.in-Err.stop still c.in-Err.ensures.cause refl kept

pub returns-in-Err-judge-clause-open : goal.returns-in-Err-judge-clause-open
returns-in-Err-judge-clause-open g c = c.requires.open

pub returns-in-Err-judge-clause-unwritten : goal.returns-in-Err-judge-clause-unwritten
returns-in-Err-judge-clause-unwritten g c = λ e. Keeps-refl (g.W.Sink.written c.args.out.now)

pub returns-in-Err-judge-clause-certificate_left : goal.returns-in-Err-judge-clause-certificate_left
returns-in-Err-judge-clause-certificate_left g c = c.in-Ok.ensures.left

pub returns-in-Err-judge-clause-failed : goal.returns-in-Err-judge-clause-failed
returns-in-Err-judge-clause-failed g c = λ e. absurd (ReadFault-moved c.in-Err-judge.stop c.in-Err-judge.ensures.no_fault e)

pub returns-in-Err-judge-clause-cause : goal.returns-in-Err-judge-clause-cause
returns-in-Err-judge-clause-cause g c = λ surface saved still kept.
    HasRunStop-judged surface _ _ saved c.in-Err-judge.stop c.in-Err-judge.ensures.no_fault c.in-Err-judge.ensures.no_write still (HasReadStop-ok _ _ c.in-Ok.reader c.in-Ok.ensures.cause) refl kept

pub returns-then-is_err-clause-open : goal.returns-then-is_err-clause-open
returns-then-is_err-clause-open g c = c.write_all.ensures.open

pub returns-then-is_err-clause-unwritten : goal.returns-then-is_err-clause-unwritten
returns-then-is_err-clause-unwritten g c = λ e. absurd (write≢read _ refl e)

pub returns-then-is_err-clause-certificate_left : goal.returns-then-is_err-clause-certificate_left
returns-then-is_err-clause-certificate_left g c = c.in-Ok.ensures.left

pub returns-then-is_err-clause-failed : goal.returns-then-is_err-clause-failed
returns-then-is_err-clause-failed g c = λ e. absurd (write≢read _ refl e)

pub returns-clause-open : goal.returns-clause-open
returns-clause-open g c = c.write_all.ensures.open

pub returns-clause-unwritten : goal.returns-clause-unwritten
returns-clause-unwritten g c = λ e. absurd (ok≢err true ReadFault e)

pub returns-clause-certificate_left : goal.returns-clause-certificate_left
returns-clause-certificate_left g c = c.in-Ok.ensures.left

pub returns-clause-failed : goal.returns-clause-failed
returns-clause-failed g c = λ e. absurd (ok≢err true ReadFault e)
