use Rattle.std.proofs.Common.{inl, ap, refl}
use Rattle.std.specs.Option.{option_copied}
use Rattle.std.specs.Prelude.{⊤}
use Rattle.hd_num.specs.Lines.{lines_of}
use Rattle.hd_run.specs.declared.stop.Stop.TheVariants.{WriteFault}
use Rattle.hd_run.proofs.Savings.{SavesLast-saved, SavesLast-stopped, SavesLast-unasked, SavesLast-unreached, AnswersAndSaves-lines_kept}
use Rattle.hd_run.proofs.Savings.{AnswersAndSaves-lines_saved, AnswersAndSaves-lines_stop, Saves-cause, AnswersAndSaves-saving_stops}
use Rattle.hd_run.proofs.Stops.{ok≢err, HasWriteStop-ok}
use Rattle.hd_run.proofs.running.answer_and_save.Goals as goal

pub returns-in-Err-clause-cause : goal.returns-in-Err-clause-cause
returns-in-Err-clause-cause g c = record {
  write = λ e. inl (c.in-Err.ensures.cause.fault e, refl);
  other = λ e. (c.in-Err.ensures.cause.no_fault e, refl);
  only = c.in-Err.ensures.cause.only;
}

pub returns-in-Err-save_file-clause-answers : goal.returns-in-Err-save_file-clause-answers
returns-in-Err-save_file-clause-answers g c =
    let old = g.W.Sink.written c.args.out.now in
    let new = g.W.Sink.written c.answer_lines.new.out in
    let lines = lines_of c.args.script.now in
    let first = g.E.SurfaceSession.state c.args.session.now in
    let after = g.E.SurfaceSession.state c.answer_lines.new.session in
    let accepted = c.in-Ok.accepted in
    AnswersAndSaves-saving_stops (option_copied c.args.job.now.save) first lines _ _ old new accepted after c.in-Some.name.now
    (ap option_copied c.in-Some.is) ⊤ c.in-Err-save_file.stop c.in-Ok.ensures.answers c.in-Err-save_file.ensures

pub returns-in-Err-save_file-clause-cause : goal.returns-in-Err-save_file-clause-cause
returns-in-Err-save_file-clause-cause g c = Saves-cause _ _ ⊤ c.in-Err-save_file.stop _ _ (HasWriteStop-ok _ _ c.in-Ok.accepted c.in-Ok.ensures.cause) c.in-Err-save_file.ensures

pub returns-in-Err-save_file-clause-saved : goal.returns-in-Err-save_file-clause-saved
returns-in-Err-save_file-clause-saved g c = λ surface script a b.
    SavesLast-stopped _ _ _ surface script _ _ ⊤ c.in-Err-save_file.stop c.in-Some.name.now _ (ap option_copied c.in-Some.is) refl a b
    (HasWriteStop-ok _ _ c.in-Ok.accepted c.in-Ok.ensures.cause) c.in-Err-save_file.ensures

pub returns-clause-answers : goal.returns-clause-answers
returns-clause-answers g c =
    let old = g.W.Sink.written c.args.out.now in
    let new = g.W.Sink.written c.answer_lines.new.out in
    let lines = lines_of c.args.script.now in
    let first = g.E.SurfaceSession.state c.args.session.now in
    let after = g.E.SurfaceSession.state c.answer_lines.new.session in
    let accepted = c.in-Ok.accepted in
    AnswersAndSaves-lines_saved (option_copied c.args.job.now.save) first lines _ _ old new accepted after c.in-Some.name.now
    (ap option_copied c.in-Some.is) c.in-Ok.ensures.answers c.in-Ok-save_file.ensures

pub returns-clause-cause : goal.returns-clause-cause
returns-clause-cause g c = record {
  write = λ e. absurd (ok≢err c.in-Ok.accepted WriteFault e);
  other = λ e. (HasWriteStop-ok _ _ c.in-Ok.accepted c.in-Ok.ensures.cause, c.in-Ok-save_file.ensures.count);
  only = λ stop e. absurd (ok≢err c.in-Ok.accepted stop e);
}

pub returns-clause-saved : goal.returns-clause-saved
returns-clause-saved g c = λ surface script a b. SavesLast-saved _ _ _ surface script _ _ c.in-Ok.accepted c.in-Some.name.now _ (ap option_copied c.in-Some.is) refl a b c.in-Ok-save_file.ensures

pub returns-in-Err-clause-open : goal.returns-in-Err-clause-open
returns-in-Err-clause-open g c = c.answer_lines.ensures.open

pub returns-in-Err-clause-answers : goal.returns-in-Err-clause-answers
returns-in-Err-clause-answers g c =
    let old = g.W.Sink.written c.args.out.now in
    let new = g.W.Sink.written c.answer_lines.new.out in
    let lines = lines_of c.args.script.now in
    let first = g.E.SurfaceSession.state c.args.session.now in
    let after = g.E.SurfaceSession.state c.answer_lines.new.session in
    AnswersAndSaves-lines_stop (option_copied c.args.job.now.save) first lines _ _ old new c.in-Err.stop after refl c.in-Err.ensures.answers

pub returns-in-Err-clause-saved : goal.returns-in-Err-clause-saved
returns-in-Err-clause-saved g c = λ surface script a b. SavesLast-unreached _ _ _ surface script _ _ c.in-Err.stop refl refl refl

pub returns-in_default-clause-open : goal.returns-in_default-clause-open
returns-in_default-clause-open g c = c.answer_lines.ensures.open

pub returns-in_default-clause-answers : goal.returns-in_default-clause-answers
returns-in_default-clause-answers g c =
    let old = g.W.Sink.written c.args.out.now in
    let new = g.W.Sink.written c.answer_lines.new.out in
    let lines = lines_of c.args.script.now in
    let first = g.E.SurfaceSession.state c.args.session.now in
    let after = g.E.SurfaceSession.state c.answer_lines.new.session in
    AnswersAndSaves-lines_kept (option_copied c.args.job.now.save) first lines _ _ old new c.in-Ok.accepted after (ap option_copied c.in_default.is) refl c.in-Ok.ensures.answers

pub returns-in_default-clause-cause : goal.returns-in_default-clause-cause
returns-in_default-clause-cause g c = record {
  write = λ e. absurd (ok≢err c.in-Ok.accepted WriteFault e);
  other = λ e. (HasWriteStop-ok _ _ c.in-Ok.accepted c.in-Ok.ensures.cause, refl);
  only = λ stop e. absurd (ok≢err c.in-Ok.accepted stop e);
}

pub returns-in_default-clause-saved : goal.returns-in_default-clause-saved
returns-in_default-clause-saved g c = λ surface script a b. SavesLast-unasked _ _ _ surface script _ _ (ap option_copied c.in_default.is) refl refl

pub returns-in-Err-save_file-clause-open : goal.returns-in-Err-save_file-clause-open
returns-in-Err-save_file-clause-open g c = c.answer_lines.ensures.open

pub returns-clause-open : goal.returns-clause-open
returns-clause-open g c = c.answer_lines.ensures.open
