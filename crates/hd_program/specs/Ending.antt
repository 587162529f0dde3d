-- How a run of the program ends, and what `out` and `saved` hold then.
use Rattle.std.specs.Prelude.{◌≡◌, ◌⊎◌, ℕ, Bool, List, [], Option, Some, None, Result, Ok, Err, IsTrue}
use Rattle.std.specs.Io.KnownBytes.{Appends, Keeps}
use Rattle.hd_base.specs.Told.{Told, AppendsPart, AppendsStart}
use Rattle.hd_words.specs.declared.demo.Demo.{Demo}
use Rattle.hd_words.specs.Forms.{form_of}
use Rattle.hd_words.specs.Requests.{Request, Run, Check, Demonstrate}
use Rattle.hd_demo.specs.DemoText.{IsTheDemoText}
use Rattle.hd_run.specs.declared.stop.Stop.{Stop}
use Rattle.hd_run.specs.declared.stop.Stop.TheVariants as stop
use Rattle.hd_run.specs.FaultCounts.{Count, RoseIn, Stays}
use Rattle.hd_run.specs.Refusals.{refusal_text}
use Rattle.hd_run.specs.RunResult.{IsBegun}
use Rattle.hd_run.specs.Saving.{Saving, SavesAll, SavesSome, IsSavedAs}
use Rattle.hd_program.specs.declared.status.Status.{Status}
use Rattle.hd_program.specs.declared.status.Status.TheVariants.{Done, ReadFault, WriteFault, Memory}
use Rattle.hd_program.specs.Outcome.{Outcome, IsOutcome}
use Rattle.hd_program.specs.Status.{refusal_status, status_of}
use Rattle.hd_program.specs.Texts.{read_fault_text}

-- this is the outcome, and there is no other
pub record IsTheOutcome (words : List (List ℕ)) (surface script : List ℕ) (o : Outcome) : Type 0 where
  pub is : IsOutcome words surface script o
  pub only : (other : Outcome) → IsOutcome words surface script other → other ≡ o

-- all of the defined output was written, and all that is to be saved
abbrev pub Completes : List (List ℕ) → List ℕ → List ℕ → Type 0 → Saving → Status → Told → Told → Type 0
Completes words surface script stays s status old new = (o : Outcome) × IsTheOutcome words surface script o
    × (o.status ≡ status) × Appends old new o.out × IsSavedAs stays s o.saved

-- this is the text of the answers to the first few lines of a request, which a run alone has
abbrev pub AnswersFew : Request → List ℕ → List ℕ → List ℕ → Type 0
AnswersFew (Run run) surface script text = IsBegun run surface script text
AnswersFew request surface script text = ⊥

-- the words have their form, and this is the text of the answers to the first few lines
abbrev pub AnswersSome : List (List ℕ) → List ℕ → List ℕ → List ℕ → Type 0
AnswersSome words surface script text =
    (request : Request) × (form_of words ≡ Some request) × AnswersFew request surface script text

-- of the answers to the first few lines not all bytes are written
abbrev pub WritesSome : List (List ℕ) → List ℕ → List ℕ → Told → Told → Type 0
WritesSome words surface script old new =
    (text : List ℕ) × AnswersSome words surface script text × AppendsPart old new text

-- what is written before the last flush fails, or the last text: all of the output, once a file is saved, and some
-- first bytes of it where none is to be saved
abbrev pub IsCutAs : Type 0 → Saving → Option (List ℕ) → List ℕ → Told → Told → Type 0
IsCutAs stays s None out old new = stays × AppendsStart old new out
IsCutAs stays s (Some text) out old new = SavesAll text s × Appends old new out

-- the defined output is written so far
abbrev pub WritesStart : List (List ℕ) → List ℕ → List ℕ → Type 0 → Saving → Told → Told → Type 0
WritesStart words surface script stays s old new =
    (o : Outcome) × IsTheOutcome words surface script o × IsCutAs stays s o.saved o.out old new

-- `saved` failed, before which all of the defined output was written
abbrev pub SavesStart : List (List ℕ) → List ℕ → List ℕ → Saving → Told → Told → Type 0
SavesStart words surface script s old new = (o : Outcome) × (text : List ℕ) × IsTheOutcome words surface script o
    × (o.saved ≡ Some text) × SavesSome text s × Appends old new o.out

-- what `out` and `saved` hold at the end, by the status; `failed` says that a source failed, `stays` that `saved` is
-- as it was
abbrev pub EndsAs : List (List ℕ) → List ℕ → List ℕ → Type 0 → Type 0 → Saving → Status → Told → Told → Type 0
EndsAs words surface script failed stays s ReadFault old new = failed × stays × Appends old new read_fault_text
EndsAs words surface script failed stays s WriteFault old new =
    (stays × (WritesSome words surface script old new ⊎ (failed × AppendsStart old new read_fault_text)))
    ⊎ (WritesStart words surface script stays s old new ⊎ SavesStart words surface script s old new)
EndsAs words surface script failed stays s Memory old new =
    stays × (Keeps old new ⊎ ((text : List ℕ) × AnswersSome words surface script text × Appends old new text))
EndsAs words surface script failed stays s status old new = Completes words surface script stays s status old new

-- the last bytes are all written and flushed, and the status is the one that was wanted
pub record IsWhole (bytes : List ℕ) (wanted status : Status) (old new : Told) (flushed : Bool) (faults : Count) :
    Type 0 where
  pub status_is : status ≡ wanted
  pub written : Appends old new bytes
  pub flushed_all : IsTrue flushed
  pub count : Stays faults

-- the sink failed, and some first bytes of the last are written
pub record IsCut (bytes : List ℕ) (status : Status) (old new : Told) (faults : Count) : Type 0 where
  pub status_is : status ≡ WriteFault
  pub written : AppendsStart old new bytes
  pub count : RoseIn faults

abbrev pub Finishes : List ℕ → Status → Status → Told → Told → Bool → Count → Type 0
Finishes bytes wanted status old new flushed faults =
    IsWhole bytes wanted status old new flushed faults ⊎ IsCut bytes status old new faults

-- nothing more is written
pub record StopsAt (wanted status : Status) (old new : Told) (faults : Count) : Type 0 where
  pub status_is : status ≡ wanted
  pub kept : Keeps old new
  pub count : Stays faults

-- how a run or a check ends, by what it came to
abbrev pub EndsRun : Result Bool Stop → Status → Told → Told → Bool → Count → Type 0
EndsRun (Ok accepted) status old new flushed faults =
    Finishes [] (status_of accepted) status old new flushed faults
EndsRun (Err stop.Memory) status old new flushed faults = StopsAt Memory status old new faults
EndsRun (Err stop.WriteFault) status old new flushed faults = StopsAt WriteFault status old new faults
EndsRun (Err stop.ReadFault) status old new flushed faults =
    Finishes read_fault_text ReadFault status old new flushed faults
EndsRun (Err (stop.Refused refusal)) status old new flushed faults =
    StopsAt Memory status old new faults
    ⊎ Finishes (refusal_text refusal) (refusal_status refusal) status old new flushed faults

-- how a demo ends: its text is written, or nothing is
abbrev pub EndsDemo : Demo → Status → Told → Told → Bool → Count → Type 0
EndsDemo demo status old new flushed faults =
    StopsAt Memory status old new faults
    ⊎ ((text : List ℕ) × IsTheDemoText demo text × Finishes text Done status old new flushed faults)
