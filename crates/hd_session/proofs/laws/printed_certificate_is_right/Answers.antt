use Rattle.std.proofs.Common.{Option, Result, subst}
use Rattle.hd_script.specs.declared.command.Command.{Command}
use Rattle.hd_script.specs.declared.command.LineError.{LineError}
use Rattle.hd_session.specs.Answers.{IsReadAnswer}
use Rattle.hd_session.proofs.SaddleAnswers.{PrintsRight-reply}
use Rattle.hd_session.proofs.laws.printed_certificate_is_right.Goals as goal

pub returns : goal.returns
returns c = λ s number line side a b reply after read is accepted.
    PrintsRight-reply c.shown_certificate_is_right.ensures s.map number side a b reply accepted (subst (λ (r : Result (Option Command) LineError). IsReadAnswer s number r reply after) read is).told
