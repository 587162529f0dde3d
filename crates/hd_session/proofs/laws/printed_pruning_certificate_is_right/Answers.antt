use Rattle.std.proofs.Common.{Option, Result, ap, subst}
use Rattle.hd_script.specs.declared.command.Command.{Command}
use Rattle.hd_script.specs.declared.command.LineError.{LineError}
use Rattle.hd_session.specs.Answers.{IsReadAnswer}
use Rattle.hd_session.specs.Reply.{Reply}
use Rattle.hd_session.proofs.laws.printed_pruning_certificate_is_right.Goals as goal

pub returns : goal.returns
returns c = λ s number line side percent reply after read whole is.
    let told = subst (λ (r : Result (Option Command) LineError). IsReadAnswer s number r reply after) read is in
    record {
      audit = told.audit;
      side_is = told.shown.side_is;
      percent_is = told.shown.percent_is;
      right = c.shown_pruning_certificate_is_right.ensures s.map side percent told.audit whole.map told.shown;
      text = ap (λ (r : Reply). r.text) told.answer.reply;
    }
