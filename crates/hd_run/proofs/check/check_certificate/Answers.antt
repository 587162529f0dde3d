use Rattle.std.proofs.Common.{Some, inl, inr, refl}
use Rattle.std.proofs.KnownBytes.{Keeps-refl}
use Rattle.hd_sdf_read.specs.FileOf.{file_of}
use Rattle.hd_run.proofs.Checks.{IsCheck-surface_stops}
use Rattle.hd_run.proofs.Runs.{SecondComesLast-after, SecondComesLast-untouched}
use Rattle.hd_run.proofs.Stops.{HasReadStop-ok, HasReadStop-moved, IsNotOfSurface-result, HasRunStop-surface}
use Rattle.hd_run.proofs.check.check_certificate.Goals as goal

pub returns-clause-told : goal.returns-clause-told
returns-clause-told g c = λ bytes second told named. c.check_second-checked.ensures.told bytes second (c.in-Ok.ensures.told bytes told) named

pub returns-clause-order : goal.returns-clause-order
returns-clause-order g c =
    SecondComesLast-after (Some c.args.job.now.certificate.now) _ _ c.args.script.now _ c.args.job.now.certificate.now (file_of c.in-Ok.file) refl
    (HasReadStop-ok _ _ c.in-Ok.file c.in-Ok.ensures.cause) c.in-Ok.ensures.told

pub returns-clause-failed : goal.returns-clause-failed
returns-clause-failed g c = λ bytes told e. inr (file_of c.in-Ok.file, c.in-Ok.ensures.told bytes told, c.check_second-checked.ensures.failed e)

pub returns-clause-cause : goal.returns-clause-cause
returns-clause-cause g c = λ saved kept. c.check_second-checked.ensures.cause _ saved (HasReadStop-ok _ _ c.in-Ok.file c.in-Ok.ensures.cause) kept

pub returns-in-Err-clause-open : goal.returns-in-Err-clause-open
returns-in-Err-clause-open g c = c.requires.open

pub returns-in-Err-clause-told : goal.returns-in-Err-clause-told
returns-in-Err-clause-told g c = λ bytes second told named. IsCheck-surface_stops bytes second c.in-Err.stop (g.W.Sink.written c.args.out.now) (c.in-Err.ensures.told bytes told)

pub returns-in-Err-clause-unwritten : goal.returns-in-Err-clause-unwritten
returns-in-Err-clause-unwritten g c = λ e. Keeps-refl (g.W.Sink.written c.args.out.now)

pub returns-in-Err-clause-order : goal.returns-in-Err-clause-order
returns-in-Err-clause-order g c = SecondComesLast-untouched (Some c.args.job.now.certificate.now) _ _ c.args.script.now

pub returns-in-Err-clause-surface_left : goal.returns-in-Err-clause-surface_left
returns-in-Err-clause-surface_left g c = c.in-Err.ensures.left

pub returns-in-Err-clause-certificate_left : goal.returns-in-Err-clause-certificate_left
returns-in-Err-clause-certificate_left g c = inl refl

pub returns-in-Err-clause-failed : goal.returns-in-Err-clause-failed
returns-in-Err-clause-failed g c = λ bytes told e. inl ((HasReadStop-moved _ _ c.in-Err.stop c.in-Err.ensures.cause).fault e)

pub returns-in-Err-clause-cause : goal.returns-in-Err-clause-cause
returns-in-Err-clause-cause g c = λ saved kept. HasRunStop-surface _ _ _ saved c.in-Err.stop c.in-Err.ensures.cause refl refl kept

pub returns-clause-open : goal.returns-clause-open
returns-clause-open g c = c.check_second-checked.ensures.open

pub returns-clause-unwritten : goal.returns-clause-unwritten
returns-clause-unwritten g c = c.check_second-checked.ensures.unwritten

pub returns-clause-surface_left : goal.returns-clause-surface_left
returns-clause-surface_left g c = c.in-Ok.ensures.left

pub returns-clause-certificate_left : goal.returns-clause-certificate_left
returns-clause-certificate_left g c = inr c.check_second-checked.ensures.certificate_left

pub returns-in-Err-clause-unread : goal.returns-in-Err-clause-unread
returns-in-Err-clause-unread g c = λ refusal is of. refl

pub returns-clause-unread : goal.returns-clause-unread
returns-clause-unread g c = λ refusal is of. absurd (IsNotOfSurface-result c.check_second-checked.result refusal c.check_second-checked.ensures.later is of)
