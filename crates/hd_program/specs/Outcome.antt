-- What the words and the bytes of the two inputs come to.
use Rattle.std.specs.Prelude.{◌≡◌, ℕ, List, Option, Some, None, Ok, Err, MatchOption}
use Rattle.hd_base.specs.Told.{Told}
use Rattle.hd_words.specs.Forms.{form_of}
use Rattle.hd_words.specs.Requests.{Request, Run, Check, Demonstrate, surface_name, second_name}
use Rattle.hd_demo.specs.DemoText.{IsDemoText}
use Rattle.hd_run.specs.Outcome.{RunOutcome, IsOutcomeOfRun, IsOutcomeOfCheck}
use Rattle.hd_run.specs.Refusals.{refusal_text}
use Rattle.hd_program.specs.declared.status.Status.{Status}
use Rattle.hd_program.specs.declared.status.Status.TheVariants.{Done, Usage}
use Rattle.hd_program.specs.Status.{refusal_status, status_of}
use Rattle.hd_program.specs.Texts.{usage_text}

-- a status, the bytes that `out` gets, and those that `saved` gets where it is opened
pub record Outcome : Type 0 where
  pub status : Status
  pub out : List ℕ
  pub saved : Option (List ℕ)

-- an outcome in which `saved` is not opened
abbrev pub tells : Status → List ℕ → Outcome
tells status text = record { status = status; out = text; saved = None }

-- what a run or a check comes to, with its status; a refusal is told by its text
abbrev pub outcome_of : RunOutcome → Outcome
outcome_of (Ok work) = record { status = status_of work.accepted; out = work.out; saved = work.saved }
outcome_of (Err refusal) = tells (refusal_status refusal) (refusal_text refusal)

-- what a request comes to
abbrev pub IsOutcomeOfRequest : Request → List ℕ → List ℕ → Outcome → Type 0
IsOutcomeOfRequest (Run run) surface second o =
    (end : RunOutcome) × IsOutcomeOfRun run surface second end × (o ≡ outcome_of end)
IsOutcomeOfRequest (Check check) surface second o =
    (end : RunOutcome) × IsOutcomeOfCheck surface second end × (o ≡ outcome_of end)
IsOutcomeOfRequest (Demonstrate demo) surface second o =
    (text : List ℕ) × IsDemoText demo text × (o ≡ tells Done text)

-- the outcome for these words, and for the bytes of the surface and the second input that they name
abbrev pub IsOutcome : List (List ℕ) → List ℕ → List ℕ → Outcome → Type 0
IsOutcome words surface second o =
    MatchOption (form_of words) (o ≡ tells Usage usage_text) (λ request. IsOutcomeOfRequest request surface second o)

-- the bytes are told of the surface and of the second input that the words name
abbrev pub TellsInputs : List (List ℕ) → (List ℕ → Told) → (List ℕ → Told) → List ℕ → List ℕ → Type 0
TellsInputs words surfaces seconds surface second = (request : Request) → form_of words ≡ Some request
    → ((name : List ℕ) → surface_name request ≡ Some name → surfaces name ≡ Some surface)
    × ((name : List ℕ) → second_name request ≡ Some name → seconds name ≡ Some second)
