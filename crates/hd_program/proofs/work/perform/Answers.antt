use Rattle.std.proofs.Common.{◌≡◌, ◌∙◌, ap, subst, map, string_bytes, Option, None, Some, refl}
use Rattle.std.specs.Option.{option_map}
use Rattle.hd_words.specs.declared.jobs.Job.{Job}
use Rattle.hd_words.specs.Forms.{form_of}
use Rattle.hd_words.specs.Requests.{Request, Run, Check, Demonstrate, IsWithinLimits, check_request_of, command_for, request_of, run_request_of}
use Rattle.hd_run.specs.FaultCounts.{over}
use Rattle.hd_run.specs.Limits.{certificate_limit}
use Rattle.hd_run.specs.Outcome.{IsOutcomeOfCheck, IsOutcomeOfRun}
use Rattle.hd_run.specs.ReadOrder.{reading}
use Rattle.hd_run.specs.RunResult.{IsBegun}
use Rattle.hd_program.specs.Texts.{usage_text}
use Rattle.hd_program.proofs.Ends.{EndsDemo-cause, EndsAs-demo, EndsDemo-flushed, EndsDemo-no_read_fault, EndsDemo-no_usage, form-some}
use Rattle.hd_program.proofs.Ends.{SavesInTurn-request, EndsRun-cause, EndsAs-run, EndsRun-flushed, EndsRun-no_usage, ReadsInOrder-run}
use Rattle.hd_program.proofs.Ends.{EndsRun-read_fault, EndsRun-saves, EndsRun-unread, ReadsWithin-run, StopsWithin-second, ReadsInOrder-unformed}
use Rattle.hd_program.proofs.Ends.{SavesInTurn-unformed, ReadsInOrder-unnamed, ReadsWithin-unread, Finishes-usage_cause, EndsAs-usage}
use Rattle.hd_program.proofs.Ends.{Finishes-usage_flushed, Finishes-usage_no_read_fault, Finishes-usage_status}
use Rattle.hd_program.proofs.IsWork.{NoAnswers, IsWork-check, IsWork-run}
use Rattle.hd_program.proofs.work.perform.Goals as goal

-- words that no command has
unformed : {A B : Type 0} (f : A → B) (form : Option A) (found : Option B) → found ≡ option_map f form → found ≡ None → form ≡ None
unformed f None found is none = refl
unformed f (Some x) found is none = absurd (form-some found (f x) is none)

pub returns-in_default-clause-outcome : goal.returns-in_default-clause-outcome
unfolding usage_text
returns-in_default-clause-outcome g c = λ bytes second told.
    EndsAs-usage (map string_bytes c.args.words.now) bytes second _ _ _ _ _ _ _ _ _
    (unformed command_for (form_of (map string_bytes c.args.words.now)) c.command_of.result c.command_of.ensures c.in_default.is) c.as_bytes.ensures.value refl c.finish.ensures

pub returns-in_default-clause-order : goal.returns-in_default-clause-order
returns-in_default-clause-order g c = ReadsInOrder-unformed _ (g.S.Source.files c.args.surface.now) _ c.args.surface.now c.args.script.now
    (unformed command_for (form_of (map string_bytes c.args.words.now)) c.command_of.result c.command_of.ensures c.in_default.is)

pub returns-in_default-clause-within : goal.returns-in_default-clause-within
returns-in_default-clause-within g c = ReadsWithin-unread _ _ _ _ _ refl refl

pub returns-in_default-clause-saved : goal.returns-in_default-clause-saved
returns-in_default-clause-saved g c =
    SavesInTurn-unformed _ _ _ _ _ _ _ (unformed command_for (form_of (map string_bytes c.args.words.now)) c.command_of.result c.command_of.ensures c.in_default.is) refl refl

pub returns-in_default-clause-usage : goal.returns-in_default-clause-usage
returns-in_default-clause-usage g c = λ is. unformed command_for (form_of (map string_bytes c.args.words.now)) c.command_of.result c.command_of.ensures c.in_default.is

pub returns-in_default-clause-unformed : goal.returns-in_default-clause-unformed
returns-in_default-clause-unformed g c = λ none. Finishes-usage_status _ _ _ _ _ _ c.finish.ensures

pub returns-in_default-clause-cause : goal.returns-in_default-clause-cause
returns-in_default-clause-cause g c = Finishes-usage_cause _ _ _ _ _ _ c.finish.ensures _ _ _ refl refl refl

pub returns-in_default-clause-read_fault : goal.returns-in_default-clause-read_fault
returns-in_default-clause-read_fault g c = λ is. absurd (Finishes-usage_no_read_fault _ _ _ _ _ _ c.finish.ensures is)

pub returns-in_default-clause-flushed : goal.returns-in_default-clause-flushed
returns-in_default-clause-flushed g c = λ fine kept. Finishes-usage_flushed _ _ _ _ _ _ c.finish.ensures fine

pub run-ran-requires-clause-tile : goal.run-ran-requires-clause-tile
run-ran-requires-clause-tile g c = subst (λ (job : Job). IsWithinLimits (request_of job)) c.in-Run.is c.in-Ok.ensures.limits

pub run-ran-requires-clause-surface : goal.run-ran-requires-clause-surface
run-ran-requires-clause-surface g c =
    let request : Request = Run (run_request_of c.in-Run.job) in
    let named : form_of (map string_bytes c.args.words.now) ≡ Some request = c.in-Ok.ensures.form ∙ ap (λ j. Some (request_of j)) c.in-Run.is in
    c.requires.surface request named c.in-Run.job.surface.now refl

pub run-ran-requires-clause-script : goal.run-ran-requires-clause-script
run-ran-requires-clause-script g c =
    let request : Request = Run (run_request_of c.in-Run.job) in
    let named : form_of (map string_bytes c.args.words.now) ≡ Some request = c.in-Ok.ensures.form ∙ ap (λ j. Some (request_of j)) c.in-Run.is in
    c.requires.script request named

pub run-ran-requires-clause-saved : goal.run-ran-requires-clause-saved
run-ran-requires-clause-saved g c =
    let request : Request = Run (run_request_of c.in-Run.job) in
    let named : form_of (map string_bytes c.args.words.now) ≡ Some request = c.in-Ok.ensures.form ∙ ap (λ j. Some (request_of j)) c.in-Run.is in
    c.requires.saved request named

pub check_certificate-checked-requires-clause-surface : goal.check_certificate-checked-requires-clause-surface
check_certificate-checked-requires-clause-surface g c =
    let request : Request = Check (check_request_of c.in-Check.job) in
    let named : form_of (map string_bytes c.args.words.now) ≡ Some request = c.in-Ok.ensures.form ∙ ap (λ j. Some (request_of j)) c.in-Check.is in
    c.requires.surface request named c.in-Check.job.surface.now refl

pub check_certificate-checked-requires-clause-certificate : goal.check_certificate-checked-requires-clause-certificate
check_certificate-checked-requires-clause-certificate g c =
    let request : Request = Check (check_request_of c.in-Check.job) in
    let named : form_of (map string_bytes c.args.words.now) ≡ Some request = c.in-Ok.ensures.form ∙ ap (λ j. Some (request_of j)) c.in-Check.is in
    c.requires.script request named c.in-Check.job.certificate.now refl

pub returns-in-Run-clause-outcome : goal.returns-in-Run-clause-outcome
returns-in-Run-clause-outcome g c = λ bytes second told.
    let request : Request = Run (run_request_of c.in-Run.job) in
    let named : form_of (map string_bytes c.args.words.now) ≡ Some request = c.in-Ok.ensures.form ∙ ap (λ j. Some (request_of j)) c.in-Run.is in
    let inputs = told request named in
    let run = run_request_of c.in-Run.job in
    EndsAs-run (map string_bytes c.args.words.now) bytes second _ _ _ request named (IsOutcomeOfRun run bytes second) (IsBegun run bytes second) (λ o h. h)
    (λ end h. (end, h, refl)) (λ text h. h) c.run-ran.result c.end_run.result (g.W.Sink.written c.args.out.now) (g.W.Sink.written c.run-ran.new.out)
    (g.W.Sink.written c.end_run.new.out) (g.W.Sink.flushed c.end_run.new.out) _
    (c.run-ran.ensures.failed bytes (inputs.0 c.in-Run.job.surface.now refl)) c.run-ran.ensures.saved.stopped
    (IsWork-run _ _ (g.W.Sink.written c.args.out.now) (g.W.Sink.written c.run-ran.new.out) run bytes second c.run-ran.result
    (c.run-ran.ensures.told bytes second (inputs.0 c.in-Run.job.surface.now refl) inputs.1)) c.end_run.ensures

pub returns-in-Run-clause-usage : goal.returns-in-Run-clause-usage
returns-in-Run-clause-usage g c = λ is. absurd (EndsRun-no_usage c.run-ran.result c.end_run.result _ _ _ _ c.end_run.ensures is)

pub returns-in-Run-clause-unformed : goal.returns-in-Run-clause-unformed
returns-in-Run-clause-unformed g c = λ none.
    let request : Request = Run (run_request_of c.in-Run.job) in
    let named : form_of (map string_bytes c.args.words.now) ≡ Some request = c.in-Ok.ensures.form ∙ ap (λ j. Some (request_of j)) c.in-Run.is in
    absurd (form-some _ request named none)

pub returns-in-Run-clause-order : goal.returns-in-Run-clause-order
returns-in-Run-clause-order g c =
    let request : Request = Run (run_request_of c.in-Run.job) in
    let named : form_of (map string_bytes c.args.words.now) ≡ Some request = c.in-Ok.ensures.form ∙ ap (λ j. Some (request_of j)) c.in-Run.is in
    ReadsInOrder-run _ request c.in-Run.job.surface.now (g.S.Source.files c.args.surface.now) _ c.args.surface.now c.run-ran.new.surface c.args.script.now c.run-ran.new.script
    named refl c.run-ran.ensures.order

pub returns-in-Run-clause-within : goal.returns-in-Run-clause-within
returns-in-Run-clause-within g c =
    let request : Request = Run (run_request_of c.in-Run.job) in
    let named : form_of (map string_bytes c.args.words.now) ≡ Some request = c.in-Ok.ensures.form ∙ ap (λ j. Some (request_of j)) c.in-Run.is in
    ReadsWithin-run _ request c.in-Run.job.surface.now _ _ _ _ named refl c.run-ran.ensures.surface_left c.run-ran.ensures.script_left

pub returns-in-Run-clause-cause : goal.returns-in-Run-clause-cause
returns-in-Run-clause-cause g c = EndsRun-cause _ _ _ _ _ _ c.end_run.result _ _ _ c.run-ran.result c.run-ran.ensures.cause c.end_run.ensures

pub returns-in-Run-clause-read_fault : goal.returns-in-Run-clause-read_fault
returns-in-Run-clause-read_fault g c =
    EndsRun-read_fault c.end_run.result (g.W.Sink.written c.args.out.now) (g.W.Sink.written c.run-ran.new.out) (g.W.Sink.written c.end_run.new.out)
    (g.W.Sink.flushed c.end_run.new.out) c.run-ran.result _ c.end_run.ensures c.run-ran.ensures.unwritten

pub returns-in-Run-clause-flushed : goal.returns-in-Run-clause-flushed
returns-in-Run-clause-flushed g c = λ fine kept.
    EndsRun-flushed c.end_run.result (g.W.Sink.written c.args.out.now) (g.W.Sink.written c.run-ran.new.out) (g.W.Sink.written c.end_run.new.out)
    (g.W.Sink.flushed c.end_run.new.out) c.run-ran.result _ c.end_run.ensures fine kept

pub returns-in-Run-clause-saved : goal.returns-in-Run-clause-saved
returns-in-Run-clause-saved g c =
    let request : Request = Run (run_request_of c.in-Run.job) in
    let named : form_of (map string_bytes c.args.words.now) ≡ Some request = c.in-Ok.ensures.form ∙ ap (λ j. Some (request_of j)) c.in-Run.is in
    EndsRun-saves _ request c.run-ran.result c.end_run.result _ _ _ _ _ _ _ _ _ _ named c.run-ran.ensures.saved c.end_run.ensures

pub returns-in-Check-clause-outcome : goal.returns-in-Check-clause-outcome
returns-in-Check-clause-outcome g c = λ bytes second told.
    let request : Request = Check (check_request_of c.in-Check.job) in
    let named : form_of (map string_bytes c.args.words.now) ≡ Some request = c.in-Ok.ensures.form ∙ ap (λ j. Some (request_of j)) c.in-Check.is in
    let inputs = told request named in
    EndsAs-run (map string_bytes c.args.words.now) bytes second _ _ _ request named (IsOutcomeOfCheck bytes second) NoAnswers (λ o h. h) (λ end h. (end, h, refl))
    (λ text h. h) c.check_certificate-checked.result c.end_run-in-Check.result (g.W.Sink.written c.args.out.now) (g.W.Sink.written c.check_certificate-checked.new.out)
    (g.W.Sink.written c.end_run-in-Check.new.out) (g.W.Sink.flushed c.end_run-in-Check.new.out) _
    (c.check_certificate-checked.ensures.failed bytes (inputs.0 c.in-Check.job.surface.now refl)) (λ why is other. refl)
    (IsWork-check _ _ (g.W.Sink.written c.args.out.now) (g.W.Sink.written c.check_certificate-checked.new.out) bytes second c.check_certificate-checked.result refl
    (c.check_certificate-checked.ensures.told bytes second (inputs.0 c.in-Check.job.surface.now refl) (inputs.1 c.in-Check.job.certificate.now refl)))
    c.end_run-in-Check.ensures

pub returns-in-Check-clause-usage : goal.returns-in-Check-clause-usage
returns-in-Check-clause-usage g c = λ is. absurd (EndsRun-no_usage c.check_certificate-checked.result c.end_run-in-Check.result _ _ _ _ c.end_run-in-Check.ensures is)

pub returns-in-Check-clause-unformed : goal.returns-in-Check-clause-unformed
returns-in-Check-clause-unformed g c = λ none.
    let request : Request = Check (check_request_of c.in-Check.job) in
    let named : form_of (map string_bytes c.args.words.now) ≡ Some request = c.in-Ok.ensures.form ∙ ap (λ j. Some (request_of j)) c.in-Check.is in
    absurd (form-some _ request named none)

pub returns-in-Check-clause-order : goal.returns-in-Check-clause-order
returns-in-Check-clause-order g c =
    let request : Request = Check (check_request_of c.in-Check.job) in
    let named : form_of (map string_bytes c.args.words.now) ≡ Some request = c.in-Ok.ensures.form ∙ ap (λ j. Some (request_of j)) c.in-Check.is in
    ReadsInOrder-run _ request c.in-Check.job.surface.now (g.S.Source.files c.args.surface.now) _ c.args.surface.now c.check_certificate-checked.new.surface c.args.script.now
    c.check_certificate-checked.new.script named refl c.check_certificate-checked.ensures.order

pub returns-in-Check-clause-within : goal.returns-in-Check-clause-within
returns-in-Check-clause-within g c =
    let request : Request = Check (check_request_of c.in-Check.job) in
    let named : form_of (map string_bytes c.args.words.now) ≡ Some request = c.in-Ok.ensures.form ∙ ap (λ j. Some (request_of j)) c.in-Check.is in
    let unread : Type 0 = c.check_certificate-checked.new.script ≡ c.args.script.now in
    let second = reading (g.R.Source.files c.args.script.now) (g.R.Source.left c.args.script.now) (g.R.Source.left c.check_certificate-checked.new.script)
    (over (g.R.Source.faults c.args.script.now) (g.R.Source.faults c.check_certificate-checked.new.script)) in
    ReadsWithin-run _ request c.in-Check.job.surface.now _ _ _ _ named refl c.check_certificate-checked.ensures.surface_left
    (λ name is. StopsWithin-second {U = unread} certificate_limit second c.in-Check.job.certificate.now name is c.check_certificate-checked.ensures.certificate_left)

pub returns-in-Check-clause-cause : goal.returns-in-Check-clause-cause
returns-in-Check-clause-cause g c = EndsRun-cause _ _ _ _ _ _ c.end_run-in-Check.result _ _ _ c.check_certificate-checked.result
    (c.check_certificate-checked.ensures.cause (over (g.V.Sink.faults c.args.saved.now) (g.V.Sink.faults c.args.saved.now)) refl) c.end_run-in-Check.ensures

pub returns-in-Check-clause-read_fault : goal.returns-in-Check-clause-read_fault
returns-in-Check-clause-read_fault g c =
    EndsRun-read_fault c.end_run-in-Check.result (g.W.Sink.written c.args.out.now) (g.W.Sink.written c.check_certificate-checked.new.out)
    (g.W.Sink.written c.end_run-in-Check.new.out) (g.W.Sink.flushed c.end_run-in-Check.new.out) c.check_certificate-checked.result _ c.end_run-in-Check.ensures
    c.check_certificate-checked.ensures.unwritten

pub returns-in-Check-clause-flushed : goal.returns-in-Check-clause-flushed
returns-in-Check-clause-flushed g c = λ fine kept.
    EndsRun-flushed c.end_run-in-Check.result (g.W.Sink.written c.args.out.now) (g.W.Sink.written c.check_certificate-checked.new.out) (g.W.Sink.written c.end_run-in-Check.new.out)
    (g.W.Sink.flushed c.end_run-in-Check.new.out) c.check_certificate-checked.result _ c.end_run-in-Check.ensures fine kept

pub returns-in-Check-clause-saved : goal.returns-in-Check-clause-saved
returns-in-Check-clause-saved g c =
    let request : Request = Check (check_request_of c.in-Check.job) in
    let named : form_of (map string_bytes c.args.words.now) ≡ Some request = c.in-Ok.ensures.form ∙ ap (λ j. Some (request_of j)) c.in-Check.is in
    SavesInTurn-request _ request _ _ _ _ _ _ named refl refl refl

pub show_demo-requires-clause-demo : goal.show_demo-requires-clause-demo
show_demo-requires-clause-demo g c = subst (λ (job : Job). IsWithinLimits (request_of job)) c.in-Demo.is c.in-Ok.ensures.limits

pub returns-in-Demo-clause-outcome : goal.returns-in-Demo-clause-outcome
returns-in-Demo-clause-outcome g c = λ bytes second told.
    let named : form_of (map string_bytes c.args.words.now) ≡ Some (Demonstrate c.in-Demo.demo) = c.in-Ok.ensures.form ∙ ap (λ j. Some (request_of j)) c.in-Demo.is in
    EndsAs-demo (map string_bytes c.args.words.now) bytes second _ _ _ c.in-Demo.demo c.show_demo.result (g.W.Sink.written c.args.out.now) (g.W.Sink.written c.show_demo.new.out)
    (g.W.Sink.flushed c.show_demo.new.out) _ named refl c.show_demo.ensures

pub returns-in-Demo-clause-usage : goal.returns-in-Demo-clause-usage
returns-in-Demo-clause-usage g c = λ is. absurd (EndsDemo-no_usage c.in-Demo.demo c.show_demo.result _ _ _ _ c.show_demo.ensures is)

pub returns-in-Demo-clause-unformed : goal.returns-in-Demo-clause-unformed
returns-in-Demo-clause-unformed g c = λ none.
    let request : Request = Demonstrate c.in-Demo.demo in
    let named : form_of (map string_bytes c.args.words.now) ≡ Some request = c.in-Ok.ensures.form ∙ ap (λ j. Some (request_of j)) c.in-Demo.is in
    absurd (form-some _ request named none)

pub returns-in-Demo-clause-order : goal.returns-in-Demo-clause-order
returns-in-Demo-clause-order g c =
    let request : Request = Demonstrate c.in-Demo.demo in
    let named : form_of (map string_bytes c.args.words.now) ≡ Some request = c.in-Ok.ensures.form ∙ ap (λ j. Some (request_of j)) c.in-Demo.is in
    ReadsInOrder-unnamed _ request (g.S.Source.files c.args.surface.now) _ c.args.surface.now c.args.script.now named refl

pub returns-in-Demo-clause-within : goal.returns-in-Demo-clause-within
returns-in-Demo-clause-within g c = ReadsWithin-unread _ _ _ _ _ refl refl

pub returns-in-Demo-clause-cause : goal.returns-in-Demo-clause-cause
returns-in-Demo-clause-cause g c = EndsDemo-cause c.in-Demo.demo c.show_demo.result _ _ _ _ _ _ _ refl refl refl c.show_demo.ensures

pub returns-in-Demo-clause-read_fault : goal.returns-in-Demo-clause-read_fault
returns-in-Demo-clause-read_fault g c = λ is. absurd (EndsDemo-no_read_fault c.in-Demo.demo c.show_demo.result _ _ _ _ c.show_demo.ensures is)

pub returns-in-Demo-clause-flushed : goal.returns-in-Demo-clause-flushed
returns-in-Demo-clause-flushed g c = λ fine kept. EndsDemo-flushed c.in-Demo.demo c.show_demo.result _ _ _ _ c.show_demo.ensures fine kept

pub returns-in-Demo-clause-saved : goal.returns-in-Demo-clause-saved
returns-in-Demo-clause-saved g c =
    let request : Request = Demonstrate c.in-Demo.demo in
    let named : form_of (map string_bytes c.args.words.now) ≡ Some request = c.in-Ok.ensures.form ∙ ap (λ j. Some (request_of j)) c.in-Demo.is in
    SavesInTurn-request _ request _ _ _ _ _ _ named refl refl refl

pub returns-in_default-clause-unread : goal.returns-in_default-clause-unread
returns-in_default-clause-unread g c = λ is. refl

pub returns-in-Run-clause-unread : goal.returns-in-Run-clause-unread
returns-in-Run-clause-unread g c = EndsRun-unread c.end_run.result _ _ _ _ c.run-ran.result c.run-ran.ensures.unread c.end_run.ensures

pub returns-in-Check-clause-unread : goal.returns-in-Check-clause-unread
returns-in-Check-clause-unread g c = EndsRun-unread c.end_run-in-Check.result _ _ _ _ c.check_certificate-checked.result c.check_certificate-checked.ensures.unread c.end_run-in-Check.ensures

pub returns-in-Demo-clause-unread : goal.returns-in-Demo-clause-unread
returns-in-Demo-clause-unread g c = λ is. refl
