-- What a run comes to, from its parts.
use Rattle.std.proofs.Common.{◌≡◌, ◌<◌, ◌≤◌, ◌⊎◌, ℕ, Bool, true, false, List, [], ◌∷◌, length, Option, Some, None, Result, Ok, Err, inl, inr, refl, sym, ap, ◌∙◌, subst, arith, nat_lt, codes}
use Rattle.std.specs.Io.{StartsWith}
use Rattle.std.proofs.KnownBytes.{Keeps-refl}
use Rattle.std.proofs.lemmas.Bool.Decides.{nat_tests}
use Rattle.hd_num.specs.Lines.{lines_of}
use Rattle.hd_session.specs.Reply.{Reply}
use Rattle.hd_session.specs.State.{State, IsState, first_state}
use Rattle.hd_session.specs.Answers.{AreAnswers}
use Rattle.hd_sdf_read.specs.File.{File}
use Rattle.hd_words.specs.Requests.{RunRequest}
use Rattle.hd_run.specs.declared.stop.Refusal.{Refusal}
use Rattle.hd_run.specs.declared.stop.Refusal.TheVariants.{SecondTooLong}
use Rattle.hd_run.specs.declared.stop.Stop.{Stop}
use Rattle.hd_run.specs.declared.stop.Stop.TheVariants.{Memory, ReadFault, WriteFault, Refused}
use Rattle.hd_run.specs.Limits.{script_limit}
use Rattle.hd_run.specs.FaultCounts.{Count, Stays}
use Rattle.hd_run.specs.ReadOrder.{Reading, SecondComesLast, StopsWithin}
use Rattle.hd_run.specs.Inputs.{IsSurfaceRead, IsScriptRead}
use Rattle.hd_run.specs.Outcome.{RunOutcome, Work, Inputs, IsTheRunOutcome, surface_of, lines_to_answer, both_inputs, inputs_of, answered, IsOutcomeOfRun, IsOutcomeOfInputs, IsOutcomeOfLines}
use Rattle.hd_run.specs.RunResult.{IsRun, IsBegun, AnswersAndSaves}
use Rattle.hd_run.specs.Saving.{Saving}
use Rattle.hd_run.specs.WrittenAnswers.{AnswersFirst, reply_of}
use Rattle.hd_run.proofs.Answered.{AnswersAreDetermined, AnswersFirst-starts}

-- a second input that nothing is read of
pub SecondComesLast-untouched : {R : Type 0} (name : Option (List ℕ)) (surface : Option (List ℕ)) (surfaces : Count) (script : R) → SecondComesLast name surface surfaces script script
SecondComesLast-untouched name surface surfaces script = record { unnamed = λ none. refl; failed = λ rose. refl; refused = λ bytes refusal told no. refl }

-- a second input that is read once the surface is accepted
pub SecondComesLast-after : {R : Type 0} (given : Option (List ℕ)) (surface : Option (List ℕ)) (surfaces : Count) (script script' : R) (name : List ℕ) (file : File)
    → given ≡ Some name → Stays surfaces
    → ((bytes : List ℕ) → surface ≡ Some bytes → surface_of bytes ≡ Ok file) → SecondComesLast given surface surfaces script script'
SecondComesLast-after given surface surfaces script script' name file named stays accepted = record {
  unnamed = λ none. absurd (cc);
  failed = λ rose. absurd (rose stays);
  refused = λ bytes refusal told no. absurd (let yes = accepted bytes told in cc);
}

-- how far it is read, whatever name is meant
pub StopsWithin-second : {U : Type 0} (given : Option (List ℕ)) (name other : List ℕ) (limit : ℕ) (r : Reading) → given ≡ Some name → given ≡ Some other → StopsWithin limit name r
    → U ⊎ StopsWithin limit other r
StopsWithin-second given name other limit r named is read = let same : name ≡ other = cc in inr (subst (λ (n : List ℕ). StopsWithin limit n r) same read)

pub lines_to_answer-none : (script : Option (List ℕ)) (bytes : List ℕ) → script ≡ None → lines_to_answer script bytes ≡ Ok (codes "dales" ∷ [])
lines_to_answer-none script bytes is = rw is refl

pub lines_to_answer-long : (script : Option (List ℕ)) (name bytes : List ℕ) → script ≡ Some name → script_limit < length bytes → lines_to_answer script bytes ≡ Err SecondTooLong
lines_to_answer-long script name bytes is long = let test : nat_lt script_limit (length bytes) ≡ true = grind (arith, nat_tests) in rw (is, test) refl

pub lines_to_answer-fits : (script : Option (List ℕ)) (name bytes : List ℕ) → script ≡ Some name → length bytes ≤ script_limit → lines_to_answer script bytes ≡ Ok (lines_of bytes)
lines_to_answer-fits script name bytes is fits = let test : nat_lt script_limit (length bytes) ≡ false = grind (arith, nat_tests) in rw (is, test) refl

module _ (request : RunRequest) (surface script : List ℕ) where
  pub inputs_of-ok : (file : File) (lines : List (List ℕ)) → surface_of surface ≡ Ok file → lines_to_answer request.script script ≡ Ok lines
      → inputs_of request surface script ≡ Ok (record { file = file; lines = lines })
  inputs_of-ok file lines read asks = ap (λ (s : Result File Refusal). both_inputs s (lines_to_answer request.script script)) read ∙ ap (both_inputs (Ok file)) asks

  inputs_of-surface : (refusal : Refusal) → surface_of surface ≡ Err refusal → inputs_of request surface script ≡ Err refusal
  inputs_of-surface refusal refused = ap (λ (s : Result File Refusal). both_inputs s (lines_to_answer request.script script)) refused

  inputs_of-script : (file : File) (refusal : Refusal) → surface_of surface ≡ Ok file → lines_to_answer request.script script ≡ Err refusal → inputs_of request surface script ≡ Err refusal
  inputs_of-script file refusal read refused = ap (λ (s : Result File Refusal). both_inputs s (lines_to_answer request.script script)) read ∙ ap (both_inputs (Ok file)) refused

  -- a refused input is the outcome
  refused_is : (refusal : Refusal) → inputs_of request surface script ≡ Err refusal → IsTheRunOutcome (IsOutcomeOfRun request surface script) (Err refusal)
  refused_is refusal refused = record {
    is = subst (λ (r : Result Inputs Refusal). IsOutcomeOfInputs request.save r (Err refusal)) (sym refused) refl;
    only = λ other h. subst (λ (r : Result Inputs Refusal). IsOutcomeOfInputs request.save r other) refused h;
  }

  module _ (stays : Type 0) (s : Saving) where
    -- a surface that is not read stops a run
    pub IsRun-surface_stops : (stop : Stop) (told : Option (List ℕ)) → IsSurfaceRead surface (Err stop) → IsRun request surface script stays s (Err stop) told told
    IsRun-surface_stops Memory told h = inl (Keeps-refl told)
    IsRun-surface_stops ReadFault told h = Keeps-refl told
    IsRun-surface_stops WriteFault told h = absurd h
    IsRun-surface_stops (Refused refusal) told h = (refused_is refusal (inputs_of-surface refusal h), Keeps-refl told)

    -- a script that is not read stops a run
    pub IsRun-script_stops : (name : List ℕ) (file : File) (stop : Stop) (told : Option (List ℕ)) → surface_of surface ≡ Ok file → request.script ≡ Some name → IsScriptRead script (Err stop)
        → IsRun request surface script stays s (Err stop) told told
    IsRun-script_stops name file Memory told read named h = inl (Keeps-refl told)
    IsRun-script_stops name file ReadFault told read named h = Keeps-refl told
    IsRun-script_stops name file WriteFault told read named h = absurd h
    IsRun-script_stops name file (Refused refusal) told read named h =
        (refused_is refusal (inputs_of-script file refusal read (lines_to_answer-long request.script name script named h.0 ∙ ap Err (sym h.1))), Keeps-refl told)

  module _ (law : AnswersAreDetermined) (inputs : Inputs) (whole : IsState (first_state inputs.file)) (accepted : inputs_of request surface script ≡ Ok inputs) where
    lines_of_outcome : (o : RunOutcome) → IsOutcomeOfRun request surface script o → IsOutcomeOfLines request.save inputs o
    lines_of_outcome o h = subst (λ (r : Result Inputs Refusal). IsOutcomeOfInputs request.save r o) accepted h

    is_begun : (text : List ℕ) → AnswersFirst (first_state inputs.file) inputs.lines text → IsBegun request surface script text
    is_begun text first = record {
      inputs = inputs;
      accepted = accepted;
      answers = first;
      every = λ work h. let k = lines_of_outcome (Ok work) h in
          let same : work ≡ answered request.save k.0 k.1 = cc in
          subst (λ (t : List ℕ). StartsWith t text) (sym (ap (λ (w : Work). w.out) same)) (AnswersFirst-starts law (first_state inputs.file) inputs.lines text k.0 k.1 whole first k.2);
    }

    -- the answers to all lines, and the file that they leave, are the outcome
    is_defined : (reply : Reply) (after : State) → AreAnswers (first_state inputs.file) 1 inputs.lines reply after
        → IsTheRunOutcome (IsOutcomeOfRun request surface script) (Ok (answered request.save reply after))
    is_defined reply after are = record {
      is = subst (λ (r : Result Inputs Refusal). IsOutcomeOfInputs request.save r (Ok (answered request.save reply after))) (sym accepted) (reply, after, are, refl);
      only = λ other h. let k = lines_of_outcome other h in let same = law (first_state inputs.file) 1 inputs.lines k.0 reply k.1 after whole k.2 are in
          k.3 ∙ ap (λ (r : Reply). Ok (answered request.save r k.1)) same.0 ∙ ap (λ (t : State). Ok (answered request.save reply t)) same.1;
    }

    -- the answers to the lines, and the saving of the file that they leave, are those of a run
    pub IsRun-answered : (stays : Type 0) (s : Saving) (result : Result Bool Stop) (old new : Option (List ℕ))
        → AnswersAndSaves request.save (first_state inputs.file) inputs.lines stays s result old new
        → IsRun request surface script stays s result old new
    IsRun-answered stays s (Ok all_accepted) old new (text, after, are, written, saved) =
        (answered request.save (reply_of all_accepted text) after, is_defined (reply_of all_accepted text) after are, refl, written, saved)
    IsRun-answered stays s (Err Memory) old new (text, first, written) = inr (text, is_begun text first, written)
    IsRun-answered stays s (Err WriteFault) old new (inl (kept, text, first, part)) = inl (kept, text, is_begun text first, part)
    IsRun-answered stays s (Err WriteFault) old new (inr (all_accepted, text, after, are, written, saved, is, some)) =
        inr (answered request.save (reply_of all_accepted text) after, is_defined (reply_of all_accepted text) after are, (saved, is, some, written))
    IsRun-answered stays s (Err ReadFault) old new h = absurd h
    IsRun-answered stays s (Err (Refused refusal)) old new h = absurd h
