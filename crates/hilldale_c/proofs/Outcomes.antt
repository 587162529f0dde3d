-- What is written and saved in memory is the one outcome of the words.
use Rattle.std.proofs.Common.{◌≡◌, ℕ, Bool, true, false, List, [], ◌++◌, Option, Some, None, ap, ◌∙◌}
use Rattle.std.specs.Option.{unwrap_or}
use Rattle.std.proofs.lemmas.Bool.{true≢false}
use Rattle.hd_base.specs.Told.{Told}
use Rattle.hd_run.specs.FaultCounts.{Count}
use Rattle.hd_run.specs.Saving.{Saving, IsSavedAs, saving}
use Rattle.hd_program.specs.declared.status.Status.{Status}
use Rattle.hd_program.specs.declared.status.Status.TheVariants.{Done, LineRefused, Usage, SurfaceRefused, CertificateRefused, ReadFault, WriteFault, Memory, TooLong}
use Rattle.hd_program.specs.Ending.{Completes, EndsAs}
use Rattle.hilldale_c.specs.Call.{IsOutcomeAs, is_stopped}

-- a run that did not stop has written the outcome
completes : (words : List (List ℕ)) (surface second : List ℕ) (failed stays : Type 0) (s : Saving) (status : Status) (old new : Told)
    → is_stopped status ≡ false → EndsAs words surface second failed stays s status old new → Completes words surface second stays s status old new
completes words surface second failed stays s Done old new e ends = ends
completes words surface second failed stays s LineRefused old new e ends = ends
completes words surface second failed stays s Usage old new e ends = ends
completes words surface second failed stays s SurfaceRefused old new e ends = ends
completes words surface second failed stays s CertificateRefused old new e ends = ends
completes words surface second failed stays s ReadFault old new e ends = absurd (true≢false e)
completes words surface second failed stays s WriteFault old new e ends = absurd (true≢false e)
completes words surface second failed stays s Memory old new e ends = absurd (true≢false e)
completes words surface second failed stays s TooLong old new e ends = ends

module _ (stays : Type 0) (saved_before saved : List ℕ) (flushed : Bool) (faults : Count) (none_saved : saved_before ≡ []) (kept : stays → saved ≡ saved_before) where
  -- what is saved, which is nothing where the sink stays as it was
  saved_text : (text : Option (List ℕ)) → IsSavedAs stays (saving (Some saved_before) (Some saved) flushed faults) text → saved ≡ unwrap_or text []
  saved_text None stayed = kept stayed ∙ none_saved
  saved_text (Some text) all = all.written

  pub is_outcome : (words : List (List ℕ)) (surface second : List ℕ) (failed : Type 0) (status : Status) (before out : List ℕ) → before ≡ []
      → is_stopped status ≡ false
      → EndsAs words surface second failed stays (saving (Some saved_before) (Some saved) flushed faults) status (Some before) (Some out)
      → IsOutcomeAs words surface second status out saved
  is_outcome words surface second failed status before out none e ends =
      let (o, is, status_is, written, saves) = completes words surface second failed stays _ status _ _ e ends in
      (o, is, status_is, written ∙ ap (λ (xs : List ℕ). xs ++ o.out) none, saved_text o.saved saves)
