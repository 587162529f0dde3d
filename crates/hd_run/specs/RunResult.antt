-- What a run or a check came to, and what was written and saved.
use Rattle.std.specs.Prelude.{◌≡◌, ◌≢◌, ◌⊎◌, ℕ, Bool, true, List, Option, Some, Result, Ok, Err, ⊤}
use Rattle.std.specs.Io.{StartsWith}
use Rattle.std.specs.Io.KnownBytes.{Appends, Keeps}
use Rattle.hd_base.specs.Told.{Told, AppendsPart}
use Rattle.hd_map.specs.Map.{Map}
use Rattle.hd_session.specs.State.{State, first_state}
use Rattle.hd_session.specs.Answers.{AreAnswers}
use Rattle.hd_words.specs.Requests.{RunRequest}
use Rattle.hd_run.specs.declared.stop.Stop.{Stop}
use Rattle.hd_run.specs.declared.stop.Stop.TheVariants.{Memory, ReadFault, WriteFault, Refused}
use Rattle.hd_run.specs.FaultCounts.{Count, OneRose, Stays}
use Rattle.hd_check.specs.declared.types.CertificateError.{CertificateError}
use Rattle.hd_check.specs.declared.types.CertificateError.TheVariants as error
use Rattle.hd_check.specs.declared.types.Verdict.{Verdict}
use Rattle.hd_check.specs.declared.types.Verdict.TheVariants.{Yes, No}
use Rattle.hd_run.specs.declared.stop.Refusal.TheVariants.{Unreadable, RuleFails}
use Rattle.hd_run.specs.Outcome.{RunOutcome, Work, Inputs, IsTheRunOutcome, inputs_of, saved_of, acceptance, IsOutcomeOfRun, IsOutcomeOfCheck, IsOutcomeOfCertificate}
use Rattle.hd_run.specs.Saving.{Saving, SavesSome, IsSavedAs}
use Rattle.hd_run.specs.Texts.{accepted_text}
use Rattle.hd_run.specs.WrittenAnswers.{AnswersFirst, reply_of}

-- a run's inputs are accepted, and this is the text of the answers to the first few lines, with which its work begins
pub record IsBegun (run : RunRequest) (surface script text : List ℕ) : Type 0 where
  pub inputs : Inputs
  pub accepted : inputs_of run surface script ≡ Ok inputs
  pub answers : AnswersFirst (first_state inputs.file) inputs.lines text
  pub every : (work : Work) → IsOutcomeOfRun run surface script (Ok work) → StartsWith work.out text

-- the answers stop at some line: not all of them are written, and nothing is saved
abbrev pub StopsAnswering : RunRequest → List ℕ → List ℕ → Type 0 → Told → Told → Type 0
StopsAnswering run surface script stays old new =
    stays × (text : List ℕ) × IsBegun run surface script text × AppendsPart old new text

-- all answers are written, and the saving of their file fails
abbrev pub StopsSaving : Work → Saving → Told → Told → Type 0
StopsSaving work s old new =
    (text : List ℕ) × (work.saved ≡ Some text) × SavesSome text s × Appends old new work.out

-- what a run came to: all is told and the file saved, or why it stopped; and what was written
abbrev pub IsRun : RunRequest → List ℕ → List ℕ → Type 0 → Saving → Result Bool Stop → Told → Told → Type 0
IsRun run surface script stays s (Ok accepted) old new =
    (work : Work) × IsTheRunOutcome (IsOutcomeOfRun run surface script) (Ok work)
    × (work.accepted ≡ accepted) × Appends old new work.out × IsSavedAs stays s work.saved
IsRun run surface script stays s (Err Memory) old new =
    Keeps old new ⊎ ((text : List ℕ) × IsBegun run surface script text × Appends old new text)
IsRun run surface script stays s (Err WriteFault) old new =
    StopsAnswering run surface script stays old new
    ⊎ ((work : Work) × IsTheRunOutcome (IsOutcomeOfRun run surface script) (Ok work) × StopsSaving work s old new)
IsRun run surface script stays s (Err ReadFault) old new = Keeps old new
IsRun run surface script stays s (Err (Refused refusal)) old new =
    IsTheRunOutcome (IsOutcomeOfRun run surface script) (Err refusal) × Keeps old new

-- what a check came to: the certificate is accepted, or why it stopped; and what was written
abbrev pub IsCheck : List ℕ → List ℕ → Result Bool Stop → Told → Told → Type 0
IsCheck surface second (Ok accepted) old new = (accepted ≡ true)
    × IsTheRunOutcome (IsOutcomeOfCheck surface second) (Ok acceptance) × Appends old new accepted_text
IsCheck surface second (Err Memory) old new = Keeps old new
IsCheck surface second (Err WriteFault) old new =
    IsTheRunOutcome (IsOutcomeOfCheck surface second) (Ok acceptance) × AppendsPart old new accepted_text
IsCheck surface second (Err ReadFault) old new = Keeps old new
IsCheck surface second (Err (Refused refusal)) old new =
    IsTheRunOutcome (IsOutcomeOfCheck surface second) (Err refusal) × Keeps old new

-- what the answering of lines from a state comes to, with the saving of the file that they leave
abbrev pub AnswersAndSaves : Option (List ℕ) → State → List (List ℕ) → Type 0 → Saving → Result Bool Stop → Told → Told → Type 0
AnswersAndSaves save first lines stays s (Ok accepted) old new =
    (text : List ℕ) × (after : State) × AreAnswers first 1 lines (reply_of accepted text) after × Appends old new text
    × IsSavedAs stays s (saved_of save after)
AnswersAndSaves save first lines stays s (Err Memory) old new =
    (text : List ℕ) × AnswersFirst first lines text × Appends old new text
AnswersAndSaves save first lines stays s (Err WriteFault) old new =
    (stays × (text : List ℕ) × AnswersFirst first lines text × AppendsPart old new text)
    ⊎ ((accepted : Bool) × (text : List ℕ) × (after : State) × AreAnswers first 1 lines (reply_of accepted text) after
    × Appends old new text × (saved : List ℕ) × (saved_of save after ≡ Some saved) × SavesSome saved s)
AnswersAndSaves save first lines stays s (Err ReadFault) old new = ⊥
AnswersAndSaves save first lines stays s (Err (Refused refusal)) old new = ⊥

-- with a read fault exactly one fault is counted, of a source, with a write fault exactly one, of a sink, and with each
-- other answer none
pub record HasRunStop {T : Type 0} (surface script out saved : Count) (result : Result T Stop) : Type 0 where
  pub read : result ≡ Err ReadFault → OneRose surface script × Stays out × Stays saved
  pub write : result ≡ Err WriteFault → Stays surface × Stays script × OneRose out saved
  pub other : result ≢ Err ReadFault → result ≢ Err WriteFault
      → Stays surface × Stays script × Stays out × Stays saved

-- the same of the answering and the saving, where no source is read
pub record HasSinkStop {T : Type 0} (out saved : Count) (result : Result T Stop) : Type 0 where
  pub write : result ≡ Err WriteFault → OneRose out saved
  pub other : result ≢ Err WriteFault → Stays out × Stays saved
  pub only : (stop : Stop) → result ≡ Err stop → (stop ≡ WriteFault) ⊎ (stop ≡ Memory)

-- what the judging of an input comes to, where Is tells its outcome: it is accepted, or why it is refused
abbrev pub IsJudgedAs : {T : Type 0} → (RunOutcome → Type 0) → Result T Stop → Type 0
IsJudgedAs Is (Ok done) = Is (Ok acceptance)
IsJudgedAs Is (Err (Refused refusal)) = Is (Err refusal)
IsJudgedAs Is (Err Memory) = ⊤
IsJudgedAs Is (Err ReadFault) = ⊥
IsJudgedAs Is (Err WriteFault) = ⊥

-- what the reading of a certificate and its rules come to: all hold, or why they are refused
abbrev pub IsJudged : {T : Type 0} → Map → List ℕ → Result T Stop → Type 0
IsJudged {T = T} m text result = IsJudgedAs {T = T} (IsOutcomeOfCertificate m text) result

-- why a check stops where a certificate is not read
abbrev pub stop_of : CertificateError → Stop
stop_of error.Memory = Memory
stop_of (error.BadLine line) = Refused (Unreadable line)

-- whether a check stops at a verdict
abbrev pub stop_at : Verdict → Result (Unit {0}) Stop
stop_at Yes = Ok tt
stop_at (No rule at) = Err (Refused (RuleFails rule at))
