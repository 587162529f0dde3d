-- What is written of the answers to lines.
use Rattle.std.specs.Prelude.{◌≡◌, ◌≢◌, ◌⊎◌, ◌+◌, ◌++◌, ℕ, Bool, List, take, Result, Ok, Err, ⊤}
use Rattle.std.specs.Io.KnownBytes.{Appends, Keeps}
use Rattle.hd_base.specs.Causes.{Rose}
use Rattle.hd_base.specs.Told.{Told, AppendsPart}
use Rattle.hd_session.specs.State.{State}
use Rattle.hd_session.specs.Answers.{IsAnswer, AreAnswers}
use Rattle.hd_session.specs.Reply.{Reply}
use Rattle.hd_run.specs.declared.stop.Stop.{Stop}
use Rattle.hd_run.specs.declared.stop.Stop.TheVariants.{Memory, WriteFault}

-- the reply with these parts
abbrev pub reply_of : Bool → List ℕ → Reply
reply_of accepted text = record { accepted = accepted; text = text }

-- the answer to a line is written, or after a write fault not all of it; after want of memory nothing of it is
abbrev pub WritesAnswer : State → ℕ → List ℕ → Result Bool Stop → State → Told → Told → Type 0
WritesAnswer s number line (Ok accepted) after old new =
    (text : List ℕ) × IsAnswer s number line (reply_of accepted text) after × Appends old new text
WritesAnswer s number line (Err Memory) after old new = Keeps old new
WritesAnswer s number line (Err WriteFault) after old new =
    (reply : Reply) × IsAnswer s number line reply after × AppendsPart old new reply.text
WritesAnswer s number line (Err stop) after old new = ⊥

-- the answers to the first few lines are this text
pub record AnswersFirst (s : State) (lines : List (List ℕ)) (text : List ℕ) : Type 0 where
  pub count : ℕ
  pub accepted : Bool
  pub after : State
  pub answers : AreAnswers s 1 (take count lines) (reply_of accepted text) after

-- the answers to all lines are written; after want of memory those to the first few of them, and after a write
-- fault not all of such
abbrev pub WritesAnswers : State → List (List ℕ) → Result Bool Stop → State → Told → Told → Type 0
WritesAnswers s lines (Ok accepted) after old new =
    (text : List ℕ) × AreAnswers s 1 lines (reply_of accepted text) after × Appends old new text
WritesAnswers s lines (Err Memory) after old new =
    (text : List ℕ) × AnswersFirst s lines text × Appends old new text
WritesAnswers s lines (Err WriteFault) after old new =
    (text : List ℕ) × AnswersFirst s lines text × AppendsPart old new text
WritesAnswers s lines (Err stop) after old new = ⊥

-- it stops at the last of the lines that were asked: the answers to all lines before that one are written, and nothing
-- behind them but some bytes of its own
pub record StopsInTurn (s : State) (lines : List (List ℕ)) (asked : ℕ) (old new : Told) : Type 0 where
  pub count : ℕ
  pub one_more : asked ≡ count + 1
  pub accepted : Bool
  pub text : List ℕ
  pub after : State
  pub answers : AreAnswers s 1 (take count lines) (reply_of accepted text) after
  pub got : List ℕ
  pub written : Appends old new (text ++ got)

-- each answer is written before the next line is asked
abbrev pub WritesInTurn : {T : Type 0} → State → List (List ℕ) → ℕ → Result T Stop → Told → Told → Type 0
WritesInTurn s lines asked (Ok accepted) old new = ⊤
WritesInTurn s lines asked (Err stop) old new = StopsInTurn s lines asked old new

-- with a write fault exactly one is counted, and each other answer leaves the count
pub record HasWriteStop {T : Type 0} (before now : ℕ) (result : Result T Stop) : Type 0 where
  pub fault : result ≡ Err WriteFault → Rose before now
  pub no_fault : result ≢ Err WriteFault → now ≡ before
  pub only : (stop : Stop) → result ≡ Err stop → (stop ≡ WriteFault) ⊎ (stop ≡ Memory)
