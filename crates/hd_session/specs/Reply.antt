-- What a line is answered, and what it leaves of the state.
use Rattle.std.specs.Prelude.{◌≡◌, ℕ, Bool, true, false, List}
use Rattle.hd_report.specs.Lines.{ok_line, refused_line}
use Rattle.hd_session.specs.declared.answer.Answer.{Answer}
use Rattle.hd_session.specs.State.{State}

-- whether a line is accepted, and its text
pub record Reply : Type 0 where
  pub accepted : Bool
  pub text : List ℕ

abbrev pub reply_of : Answer → Reply
reply_of answer = record { accepted = answer.accepted; text = answer.text }

-- the line is accepted with this text
abbrev pub accepted_with : List ℕ → Reply
accepted_with text = record { accepted = true; text = text }

-- the line of this number is refused for this cause
abbrev pub refused_for : ℕ → List ℕ → Reply
refused_for number text = record { accepted = false; text = refused_line number text }

-- this is the reply, and the state stays
pub record Reports (before after : State) (wanted got : Reply) : Type 0 where
  pub state : after ≡ before
  pub reply : got ≡ wanted

-- the line is accepted with no text but `line N ok`, and this is the state after it
pub record Becomes (number : ℕ) (wanted after : State) (got : Reply) : Type 0 where
  pub state : after ≡ wanted
  pub reply : got ≡ accepted_with (ok_line number)

-- the line is refused for this cause, and the state stays
abbrev pub Refuses : State → ℕ → List ℕ → Reply → State → Type 0
Refuses s number text reply after = Reports s after (refused_for number text) reply
