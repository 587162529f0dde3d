use Rattle.std.proofs.Common.{◌≡◌, ◌∷◌, [], ◌∙◌, Some, Ok, codes, inl, inr, sym, ap, refl}
use Rattle.std.specs.Option.{option_copied}
use Rattle.std.proofs.KnownBytes.{Keeps-refl}
use Rattle.hd_map.specs.SurfaceLaws.{surface-whole}
use Rattle.hd_num.specs.Lines.{lines_of}
use Rattle.hd_sdf_read.specs.FileOf.{file_of}
use Rattle.hd_words.specs.Requests.{run_request_of}
use Rattle.hd_run.specs.FaultCounts.{over}
use Rattle.hd_run.specs.Limits.{script_limit}
use Rattle.hd_run.specs.ReadOrder.{reading}
use Rattle.hd_run.proofs.Runs.{inputs_of-ok, lines_to_answer-none, lines_to_answer-fits, IsRun-answered, SecondComesLast-after, StopsWithin-second}
use Rattle.hd_run.proofs.Runs.{IsRun-script_stops, SecondComesLast-untouched, IsRun-surface_stops}
use Rattle.hd_run.proofs.Savings.{SavesLast-unreached}
use Rattle.hd_run.proofs.Stops.{HasRunStop-answering, IsNotOfSurface-stop, HasSinkStop-no_read_fault, HasSinkStop-no_refusal, HasReadStop-ok, HasReadStop-moved, HasRunStop-second, HasRunStop-surface}
use Rattle.hd_run.proofs.running.run.Goals as goal

pub returns-in-Err-clause-told : goal.returns-in-Err-clause-told
returns-in-Err-clause-told g c = λ bytes second told named.
    IsRun-surface_stops (run_request_of c.args.job.now) bytes second _ _ c.in-Err.stop (g.W.Sink.written c.args.out.now) (c.in-Err.ensures.told bytes told)

pub returns-in-Err-clause-order : goal.returns-in-Err-clause-order
returns-in-Err-clause-order g c = SecondComesLast-untouched (option_copied c.args.job.now.script) _ _ c.args.script.now

pub returns-in-Err-clause-failed : goal.returns-in-Err-clause-failed
returns-in-Err-clause-failed g c = λ bytes told e. inl ((HasReadStop-moved _ _ c.in-Err.stop c.in-Err.ensures.cause).fault e)

pub returns-in-Err-clause-saved : goal.returns-in-Err-clause-saved
returns-in-Err-clause-saved g c = SavesLast-unreached _ _ _ _ _ _ _ c.in-Err.stop refl refl refl

pub returns-in_default-clause-told : goal.returns-in_default-clause-told
returns-in_default-clause-told g c = λ bytes second told named.
    let request = run_request_of c.args.job.now in
    let file = file_of c.in-Ok.file in
    let lines = lines_of c.as_slice.result.now in
    let dales : lines ≡ codes "dales" ∷ [] = ap lines_of c.as_slice.ensures in
    IsRun-answered request bytes second c.answers_are_determined.ensures (record { file = file; lines = lines }) (c.answer_keeps_a_state.ensures.first file (surface-whole c.in-Ok.file.surface))
    (inputs_of-ok request bytes second file lines (c.in-Ok.ensures.told bytes told) (lines_to_answer-none request.script second (ap option_copied c.in_default.is) ∙ ap Ok (sym dales)))
    _ _ c.answer_all.result (g.W.Sink.written c.args.out.now) (g.W.Sink.written c.answer_all.new.out) c.answer_all.ensures.answers

pub returns-in_default-clause-order : goal.returns-in_default-clause-order
returns-in_default-clause-order g c = SecondComesLast-untouched (option_copied c.args.job.now.script) _ _ c.args.script.now

pub returns-in_default-clause-failed : goal.returns-in_default-clause-failed
returns-in_default-clause-failed g c = λ bytes told e. absurd (HasSinkStop-no_read_fault _ _ c.answer_all.result c.answer_all.ensures.cause e)

pub returns-in_default-clause-saved : goal.returns-in_default-clause-saved
returns-in_default-clause-saved g c = c.answer_all.ensures.saved _ _ (HasReadStop-ok _ _ c.in-Ok.file c.in-Ok.ensures.cause) refl

pub returns-in-Err-read_script-clause-told : goal.returns-in-Err-read_script-clause-told
returns-in-Err-read_script-clause-told g c = λ bytes second told named.
    let name_is : option_copied c.args.job.now.script ≡ Some c.in-Some.name.now = ap option_copied c.in-Some.is in
    IsRun-script_stops (run_request_of c.args.job.now) bytes second _ _ c.in-Some.name.now (file_of c.in-Ok.file) c.in-Err-read_script.stop (g.W.Sink.written c.args.out.now)
    (c.in-Ok.ensures.told bytes told) name_is
    (c.in-Err-read_script.ensures.told second (named c.in-Some.name.now name_is))

pub returns-in-Err-read_script-clause-order : goal.returns-in-Err-read_script-clause-order
returns-in-Err-read_script-clause-order g c =
    SecondComesLast-after (option_copied c.args.job.now.script) _ _ c.args.script.now _ c.in-Some.name.now (file_of c.in-Ok.file) (ap option_copied c.in-Some.is)
    (HasReadStop-ok _ _ c.in-Ok.file c.in-Ok.ensures.cause) c.in-Ok.ensures.told

pub returns-in-Err-read_script-clause-failed : goal.returns-in-Err-read_script-clause-failed
returns-in-Err-read_script-clause-failed g c = λ bytes told e.
    inr (file_of c.in-Ok.file, c.in-Ok.ensures.told bytes told, (HasReadStop-moved _ _ c.in-Err-read_script.stop c.in-Err-read_script.ensures.cause).fault e)

pub returns-in-Err-read_script-clause-saved : goal.returns-in-Err-read_script-clause-saved
returns-in-Err-read_script-clause-saved g c = SavesLast-unreached _ _ _ _ _ _ _ c.in-Err-read_script.stop refl refl refl

pub returns-clause-told : goal.returns-clause-told
returns-clause-told g c = λ bytes second told named.
    let request = run_request_of c.args.job.now in
    let file = file_of c.in-Ok.file in
    let name_is : option_copied c.args.job.now.script ≡ Some c.in-Some.name.now = ap option_copied c.in-Some.is in
    let script = c.in-Ok-read_script.ensures.told second (named c.in-Some.name.now name_is) in
    let lines = lines_of c.as_slice-2.result.now in
    let lines_is : lines ≡ lines_of second = ap lines_of (c.as_slice-2.ensures ∙ script.1) in
    IsRun-answered request bytes second c.answers_are_determined.ensures (record { file = file; lines = lines }) (c.answer_keeps_a_state.ensures.first file (surface-whole c.in-Ok.file.surface))
    (inputs_of-ok request bytes second file lines (c.in-Ok.ensures.told bytes told) (lines_to_answer-fits request.script c.in-Some.name.now second name_is script.0 ∙ ap Ok (sym lines_is)))
    _ _ c.answer_all-2.result (g.W.Sink.written c.args.out.now) (g.W.Sink.written c.answer_all-2.new.out) c.answer_all-2.ensures.answers

pub returns-clause-order : goal.returns-clause-order
returns-clause-order g c =
    SecondComesLast-after (option_copied c.args.job.now.script) _ _ c.args.script.now _ c.in-Some.name.now (file_of c.in-Ok.file) (ap option_copied c.in-Some.is)
    (HasReadStop-ok _ _ c.in-Ok.file c.in-Ok.ensures.cause) c.in-Ok.ensures.told

pub returns-clause-script_left : goal.returns-clause-script_left
returns-clause-script_left g c = λ name named.
    let read = reading (g.R.Source.files c.args.script.now) (g.R.Source.left c.args.script.now) (g.R.Source.left c.read_script.new.source)
    (over (g.R.Source.faults c.args.script.now) (g.R.Source.faults c.read_script.new.source)) in
    StopsWithin-second (option_copied c.args.job.now.script) c.in-Some.name.now name script_limit read (ap option_copied c.in-Some.is) named c.in-Ok-read_script.ensures.left

pub returns-clause-failed : goal.returns-clause-failed
returns-clause-failed g c = λ bytes told e. absurd (HasSinkStop-no_read_fault _ _ c.answer_all-2.result c.answer_all-2.ensures.cause e)

pub returns-clause-saved : goal.returns-clause-saved
returns-clause-saved g c = c.answer_all-2.ensures.saved _ _ (HasReadStop-ok _ _ c.in-Ok.file c.in-Ok.ensures.cause) (HasReadStop-ok _ _ c.in-Ok-read_script.lines c.in-Ok-read_script.ensures.cause)

pub returns-in-Err-clause-open : goal.returns-in-Err-clause-open
returns-in-Err-clause-open g c = c.requires.open

pub returns-in-Err-clause-unwritten : goal.returns-in-Err-clause-unwritten
returns-in-Err-clause-unwritten g c = λ e. Keeps-refl (g.W.Sink.written c.args.out.now)

pub returns-in-Err-clause-surface_left : goal.returns-in-Err-clause-surface_left
returns-in-Err-clause-surface_left g c = c.in-Err.ensures.left

pub returns-in-Err-clause-script_left : goal.returns-in-Err-clause-script_left
returns-in-Err-clause-script_left g c = λ name named. inl refl

pub returns-in-Err-clause-cause : goal.returns-in-Err-clause-cause
returns-in-Err-clause-cause g c = HasRunStop-surface _ _ _ _ c.in-Err.stop c.in-Err.ensures.cause refl refl refl

pub returns-in_default-clause-open : goal.returns-in_default-clause-open
returns-in_default-clause-open g c = c.answer_all.ensures.open

pub returns-in_default-clause-unwritten : goal.returns-in_default-clause-unwritten
returns-in_default-clause-unwritten g c = λ e. absurd (HasSinkStop-no_read_fault _ _ c.answer_all.result c.answer_all.ensures.cause e)

pub returns-in_default-clause-surface_left : goal.returns-in_default-clause-surface_left
returns-in_default-clause-surface_left g c = c.in-Ok.ensures.left

pub returns-in_default-clause-script_left : goal.returns-in_default-clause-script_left
returns-in_default-clause-script_left g c = λ name named. inl refl

pub returns-in_default-clause-cause : goal.returns-in_default-clause-cause
returns-in_default-clause-cause g c = HasRunStop-answering _ _ _ _ c.answer_all.result (HasReadStop-ok _ _ c.in-Ok.file c.in-Ok.ensures.cause) refl c.answer_all.ensures.cause

pub returns-in-Err-read_script-clause-open : goal.returns-in-Err-read_script-clause-open
returns-in-Err-read_script-clause-open g c = c.requires.open

pub returns-in-Err-read_script-clause-unwritten : goal.returns-in-Err-read_script-clause-unwritten
returns-in-Err-read_script-clause-unwritten g c = λ e. Keeps-refl (g.W.Sink.written c.args.out.now)

pub returns-in-Err-read_script-clause-surface_left : goal.returns-in-Err-read_script-clause-surface_left
returns-in-Err-read_script-clause-surface_left g c = c.in-Ok.ensures.left

pub returns-in-Err-read_script-clause-script_left : goal.returns-in-Err-read_script-clause-script_left
returns-in-Err-read_script-clause-script_left g c = λ name named.
    let read = reading (g.R.Source.files c.args.script.now) (g.R.Source.left c.args.script.now) (g.R.Source.left c.read_script.new.source)
    (over (g.R.Source.faults c.args.script.now) (g.R.Source.faults c.read_script.new.source)) in
    StopsWithin-second (option_copied c.args.job.now.script) c.in-Some.name.now name script_limit read (ap option_copied c.in-Some.is) named c.in-Err-read_script.ensures.left

pub returns-in-Err-read_script-clause-cause : goal.returns-in-Err-read_script-clause-cause
returns-in-Err-read_script-clause-cause g c = HasRunStop-second _ _ _ _ c.in-Err-read_script.stop (HasReadStop-ok _ _ c.in-Ok.file c.in-Ok.ensures.cause) c.in-Err-read_script.ensures.cause refl refl

pub returns-clause-open : goal.returns-clause-open
returns-clause-open g c = c.answer_all-2.ensures.open

pub returns-clause-unwritten : goal.returns-clause-unwritten
returns-clause-unwritten g c = λ e. absurd (HasSinkStop-no_read_fault _ _ c.answer_all-2.result c.answer_all-2.ensures.cause e)

pub returns-clause-surface_left : goal.returns-clause-surface_left
returns-clause-surface_left g c = c.in-Ok.ensures.left

pub returns-clause-cause : goal.returns-clause-cause
returns-clause-cause g c = HasRunStop-answering _ _ _ _ c.answer_all-2.result (HasReadStop-ok _ _ c.in-Ok.file c.in-Ok.ensures.cause)
    (HasReadStop-ok _ _ c.in-Ok-read_script.lines c.in-Ok-read_script.ensures.cause) c.answer_all-2.ensures.cause

pub returns-in-Err-clause-unread : goal.returns-in-Err-clause-unread
returns-in-Err-clause-unread g c = λ refusal is of. refl

pub returns-in_default-clause-unread : goal.returns-in_default-clause-unread
returns-in_default-clause-unread g c = λ refusal is of. refl

pub returns-in-Err-read_script-clause-unread : goal.returns-in-Err-read_script-clause-unread
returns-in-Err-read_script-clause-unread g c = λ refusal is of. absurd (IsNotOfSurface-stop c.in-Err-read_script.stop refusal c.in-Err-read_script.ensures.later is of)

pub returns-clause-unread : goal.returns-clause-unread
returns-clause-unread g c = λ refusal is of. absurd (HasSinkStop-no_refusal _ _ c.answer_all-2.result c.answer_all-2.ensures.cause refusal is)
