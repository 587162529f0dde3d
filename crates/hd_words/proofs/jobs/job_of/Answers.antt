use Rattle.std.proofs.Common.{◌≡◌, ◌∙◌, Some, ap, map, string_bytes, subst, sym}
use Rattle.hd_words.specs.Requests.{Check, IsWithinLimits, Run}
use Rattle.hd_words.specs.declared.command_lines.CommandLine.TheVariants as line
use Rattle.hd_words.proofs.Matched.{AsksBy, Asks-by, Asks-of, DemoOf-asked, line_of}
use Rattle.hd_words.proofs.WithinLimits.{IsWithinLimits-request}
use Rattle.hd_words.proofs.jobs.job_of.Goals as goal

pub matches_of-requires : goal.matches_of-requires
matches_of-requires c = (Asks-by (map string_bytes c.args.words.now) c.args.command line.Dales c.requires (ap line_of c.in-Dales.is)).form

pub dales_job-requires : goal.dales_job-requires
dales_job-requires c =
    let words = map string_bytes c.args.words.now in
    let asked : AsksBy line.Dales c.args.command words = Asks-by words c.args.command line.Dales c.requires (ap line_of c.in-Dales.is) in
    (asked.form.request, Asks-of line.Dales words c.in_ok-matches-in-Dales.matches asked.form c.in_ok-matches-in-Dales.ensures)

pub returns-in_ok-matches-in-Dales-clause-form : goal.returns-in_ok-matches-in-Dales-clause-form
returns-in_ok-matches-in-Dales-clause-form c =
    let words = map string_bytes c.args.words.now in
    let asked : AsksBy line.Dales c.args.command words = Asks-by words c.args.command line.Dales c.requires (ap line_of c.in-Dales.is) in
    asked.form.is ∙ ap Some (sym (c.dales_job.ensures asked.form.request (Asks-of line.Dales words c.in_ok-matches-in-Dales.matches asked.form c.in_ok-matches-in-Dales.ensures)))

pub returns-in_ok-matches-in-Dales-clause-limits : goal.returns-in_ok-matches-in-Dales-clause-limits
returns-in_ok-matches-in-Dales-clause-limits c =
    let words = map string_bytes c.args.words.now in
    let asked : AsksBy line.Dales c.args.command words = Asks-by words c.args.command line.Dales c.requires (ap line_of c.in-Dales.is) in
    subst IsWithinLimits (sym (c.dales_job.ensures asked.form.request (Asks-of line.Dales words c.in_ok-matches-in-Dales.matches asked.form c.in_ok-matches-in-Dales.ensures)))
    (IsWithinLimits-request words asked.form.request asked.form.is)

pub matches_of-requires-in-Run : goal.matches_of-requires-in-Run
matches_of-requires-in-Run c = (Asks-by (map string_bytes c.args.words.now) c.args.command line.Run c.requires (ap line_of c.in-Run.is)).form

pub run_job-requires : goal.run_job-requires
run_job-requires c =
    let words = map string_bytes c.args.words.now in
    let asked : AsksBy line.Run c.args.command words = Asks-by words c.args.command line.Run c.requires (ap line_of c.in-Run.is) in
    (asked.form.request, Asks-of line.Run words c.in_ok-matches-in-Run.matches asked.form c.in_ok-matches-in-Run.ensures)

pub returns-in_ok-matches-in-Run-clause-form : goal.returns-in_ok-matches-in-Run-clause-form
returns-in_ok-matches-in-Run-clause-form c =
    let words = map string_bytes c.args.words.now in
    let asked : AsksBy line.Run c.args.command words = Asks-by words c.args.command line.Run c.requires (ap line_of c.in-Run.is) in
    asked.form.is ∙ ap Some (sym (c.run_job.ensures asked.form.request (Asks-of line.Run words c.in_ok-matches-in-Run.matches asked.form c.in_ok-matches-in-Run.ensures)
    (asked.command_is ∙ c.in-Run.is)))

pub returns-in_ok-matches-in-Run-clause-limits : goal.returns-in_ok-matches-in-Run-clause-limits
returns-in_ok-matches-in-Run-clause-limits c =
    let words = map string_bytes c.args.words.now in
    let asked : AsksBy line.Run c.args.command words = Asks-by words c.args.command line.Run c.requires (ap line_of c.in-Run.is) in
    subst IsWithinLimits (sym (c.run_job.ensures asked.form.request (Asks-of line.Run words c.in_ok-matches-in-Run.matches asked.form c.in_ok-matches-in-Run.ensures)
    (asked.command_is ∙ c.in-Run.is))) (IsWithinLimits-request words asked.form.request asked.form.is)

pub matches_of-requires-in-Check : goal.matches_of-requires-in-Check
matches_of-requires-in-Check c = (Asks-by (map string_bytes c.args.words.now) c.args.command line.Check c.requires (ap line_of c.in-Check.is)).form

pub check_job-requires : goal.check_job-requires
check_job-requires c =
    let words = map string_bytes c.args.words.now in
    let asked : AsksBy line.Check c.args.command words = Asks-by words c.args.command line.Check c.requires (ap line_of c.in-Check.is) in
    (asked.form.request, Asks-of line.Check words c.in_ok-matches-in-Check.matches asked.form c.in_ok-matches-in-Check.ensures)

pub returns-in_ok-matches-in-Check-clause-form : goal.returns-in_ok-matches-in-Check-clause-form
returns-in_ok-matches-in-Check-clause-form c =
    let words = map string_bytes c.args.words.now in
    let asked : AsksBy line.Check c.args.command words = Asks-by words c.args.command line.Check c.requires (ap line_of c.in-Check.is) in
    asked.form.is ∙ ap Some (sym (c.check_job.ensures asked.form.request (Asks-of line.Check words c.in_ok-matches-in-Check.matches asked.form c.in_ok-matches-in-Check.ensures)))

pub returns-in-Demo-clause-limits : goal.returns-in-Demo-clause-limits
returns-in-Demo-clause-limits c =
    let words = map string_bytes c.args.words.now in
    IsWithinLimits-request words _ (DemoOf-asked words c.in-Demo.demo (c.requires ∙ ap Some c.in-Demo.is))
