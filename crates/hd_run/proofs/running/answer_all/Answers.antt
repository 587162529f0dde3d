use Rattle.std.proofs.Common.{◌≡◌, ℕ, Bool, Option, List, Result, [], subst}
use Rattle.std.specs.Option.{option_copied}
use Rattle.std.proofs.KnownBytes.{Appends-nil}
use Rattle.hd_num.specs.Lines.{lines_of}
use Rattle.hd_sdf_read.specs.FileOf.{file_of}
use Rattle.hd_session.specs.State.{State, first_state}
use Rattle.hd_run.specs.declared.stop.Stop.{Stop}
use Rattle.hd_run.specs.RunResult.{AnswersAndSaves}
use Rattle.hd_run.specs.Saving.{Saving}
use Rattle.hd_run.proofs.Answered.{AnswersFirst-none}
use Rattle.hd_run.proofs.running.answer_all.Goals as goal

pub returns-in_default-clause-answers : goal.returns-in_default-clause-answers
returns-in_default-clause-answers g c = ([], AnswersFirst-none _ _, Appends-nil (g.W.Sink.written c.args.out.now))

from_state : (save : Option (List ℕ)) (before first : State) (lines : List (List ℕ)) (stays : Type 0) (s : Saving) (result : Result Bool Stop) (old new : Option (List ℕ)) → before ≡ first
    → AnswersAndSaves save before lines stays s result old new → AnswersAndSaves save first lines stays s result old new
from_state save before first lines stays s result old new same answers = subst (λ (t : State). AnswersAndSaves save t lines stays s result old new) same answers

pub returns-clause-answers : goal.returns-clause-answers
returns-clause-answers g c =
    from_state (option_copied c.args.job.now.save) _ (first_state (file_of c.args.file)) (lines_of c.args.script.now) _ _ c.answer_and_save-answered.result
    (g.W.Sink.written c.args.out.now) (g.W.Sink.written c.answer_and_save-answered.new.out)
    c.in-Ok.ensures.state c.answer_and_save-answered.ensures.answers
