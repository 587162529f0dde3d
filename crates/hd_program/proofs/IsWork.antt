-- What runs and checks come to alike.
use Rattle.std.proofs.Common.{◌≡◌, ◌⊎◌, ℕ, Bool, List, Option, Result, Ok, Err, inl, inr, sym}
use Rattle.std.specs.Io.KnownBytes.{Appends, Keeps}
use Rattle.hd_base.specs.Told.{AppendsPart}
use Rattle.hd_base.proofs.Told.{AppendsPart-start}
use Rattle.hd_words.specs.Requests.{RunRequest}
use Rattle.hd_run.specs.declared.stop.Stop.{Stop}
use Rattle.hd_run.specs.declared.stop.Stop.TheVariants.{Memory, ReadFault, WriteFault, Refused}
use Rattle.hd_run.specs.Outcome.{RunOutcome, Work, IsTheRunOutcome, IsOutcomeOfCheck, IsOutcomeOfRun, acceptance}
use Rattle.hd_run.specs.RunResult.{IsBegun, IsCheck, IsRun, StopsSaving}
use Rattle.hd_run.specs.Saving.{Saving, IsSavedAs}
use Rattle.hd_program.specs.Ending.{IsCutAs}

-- what a run or a check came to, by what its outcome is, and by which texts its answers may begin with
abbrev pub IsWork : (RunOutcome → Type 0) → (List ℕ → Type 0) → Type 0 → Saving → Result Bool Stop → Option (List ℕ) → Option (List ℕ) → Type 0
IsWork Is Begins stays s (Ok accepted) old new = (work : Work) × IsTheRunOutcome Is (Ok work) × (work.accepted ≡ accepted) × Appends old new work.out × IsSavedAs stays s work.saved
IsWork Is Begins stays s (Err Memory) old new = Keeps old new ⊎ ((text : List ℕ) × Begins text × Appends old new text)
IsWork Is Begins stays s (Err WriteFault) old new =
    (stays × (text : List ℕ) × Begins text × AppendsPart old new text)
    ⊎ ((work : Work) × IsTheRunOutcome Is (Ok work) × (StopsSaving work s old new ⊎ IsCutAs stays s work.saved work.out old new))
IsWork Is Begins stays s (Err ReadFault) old new = Keeps old new
IsWork Is Begins stays s (Err (Refused refusal)) old new = IsTheRunOutcome Is (Err refusal) × Keeps old new

-- a check begins with no answers
abbrev pub NoAnswers : List ℕ → Type 0
NoAnswers text = ⊥

module _ (stays : Type 0) (s : Saving) (old new : Option (List ℕ)) where
  pub IsWork-run : (run : RunRequest) (surface script : List ℕ) (result : Result Bool Stop) → IsRun run surface script stays s result old new
      → IsWork (IsOutcomeOfRun run surface script) (IsBegun run surface script) stays s result old new
  IsWork-run run surface script (Ok accepted) h = h
  IsWork-run run surface script (Err Memory) h = h
  IsWork-run run surface script (Err WriteFault) (inl stopped) = inl stopped
  IsWork-run run surface script (Err WriteFault) (inr (work, is, unsaved)) = inr (work, is, inl unsaved)
  IsWork-run run surface script (Err ReadFault) h = h
  IsWork-run run surface script (Err (Refused refusal)) h = h

  pub IsWork-check : (surface second : List ℕ) (result : Result Bool Stop) → stays → IsCheck surface second result old new → IsWork (IsOutcomeOfCheck surface second) NoAnswers stays s result old new
  IsWork-check surface second (Ok accepted) kept (is, the, written) = (acceptance, the, sym is, written, kept)
  IsWork-check surface second (Err Memory) kept h = inl h
  IsWork-check surface second (Err WriteFault) kept (the, part) = inr (acceptance, the, inr (kept, AppendsPart-start old new acceptance.out part))
  IsWork-check surface second (Err ReadFault) kept h = h
  IsWork-check surface second (Err (Refused refusal)) kept h = h
