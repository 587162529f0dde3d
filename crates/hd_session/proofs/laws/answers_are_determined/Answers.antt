use Rattle.hd_session.proofs.Determined.{AreAnswers-unique}
use Rattle.hd_session.proofs.laws.answers_are_determined.Goals as goal

pub returns : goal.returns
returns c = AreAnswers-unique (record { one = c.answer_is_determined.ensures; keeps = c.answer_keeps_a_state.ensures.kept })
