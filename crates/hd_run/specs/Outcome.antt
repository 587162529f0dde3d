-- What the bytes of the two inputs come to.
use Rattle.std.specs.Prelude.{◌≡◌, ℕ, Bool, true, false, List, ◌∷◌, [], length, Option, Some, None, Result, Ok, Err, MatchResult, codes, nat_lt, if◌then◌else◌}
use Rattle.std.specs.Option.{option_map}
use Rattle.std.specs.Str.{bytes_eq}
use Rattle.hd_check.specs.declared.types.CertificateError.{CertificateError}
use Rattle.hd_check.specs.declared.types.CertificateError.TheVariants.{BadLine}
use Rattle.hd_check.specs.declared.types.Verdict.{Verdict}
use Rattle.hd_check.specs.declared.types.Verdict.TheVariants.{Yes, No}
use Rattle.hd_check.specs.Reading.{certificate_of}
use Rattle.hd_check.specs.Rules.{IsVerdict}
use Rattle.hd_map.specs.Map.{Map}
use Rattle.hd_audit.specs.Reading.{audit_of}
use Rattle.hd_audit.specs.Rules as pruning
use Rattle.hd_num.specs.Lines.{lines_of, words_of}
use Rattle.hd_sdf_read.specs.declared.error.SdfError.{SdfError}
use Rattle.hd_sdf_read.specs.File.{File}
use Rattle.hd_sdf_read.specs.Grammar.{file_in}
use Rattle.hd_sdf_write.specs.Canonical.{canonical}
use Rattle.hd_session.specs.State.{State, first_state, saved_file}
use Rattle.hd_session.specs.Answers.{AreAnswers}
use Rattle.hd_session.specs.Reply.{Reply}
use Rattle.hd_words.specs.Requests.{RunRequest}
use Rattle.hd_run.specs.declared.stop.Refusal.{Refusal}
use Rattle.hd_run.specs.declared.stop.Refusal.TheVariants.{SurfaceTooLong, Surface, SecondTooLong, Unreadable, RuleFails}
use Rattle.hd_run.specs.Limits.{certificate_limit, script_limit, surface_limit}
use Rattle.hd_run.specs.Texts.{accepted_text}

-- whether each line was accepted, the bytes that `out` gets, and those that `saved` gets where it is opened
pub record Work : Type 0 where
  pub accepted : Bool
  pub out : List ℕ
  pub saved : Option (List ℕ)

-- what a run or a check comes to: its work, or the refusal of an input
abbrev pub RunOutcome : Type 0
RunOutcome = Result Work Refusal

-- this is the outcome by a definition, and there is no other
pub record IsTheRunOutcome (Is : RunOutcome → Type 0) (o : RunOutcome) : Type 0 where
  pub is : Is o
  pub only : (other : RunOutcome) → Is other → other ≡ o

-- the file, or why the program refuses it
abbrev pub judged : Result File SdfError → Result File Refusal
judged (Ok file) = Ok file
judged (Err error) = Err (Surface error)

-- the file that the surface's bytes hold, or why they are refused
abbrev pub surface_of : List ℕ → Result File Refusal
surface_of bytes =
    if nat_lt surface_limit (length bytes) then Err SurfaceTooLong else judged (file_in bytes)

-- the lines to answer: those of the script, if it is not too long; without a script the one line `dales`
abbrev pub lines_to_answer : Option (List ℕ) → List ℕ → Result (List (List ℕ)) Refusal
lines_to_answer None script = Ok (codes "dales" ∷ [])
lines_to_answer (Some name) script =
    if nat_lt script_limit (length script) then Err SecondTooLong else Ok (lines_of script)

-- a file, and the lines to answer on its surface
pub record Inputs : Type 0 where
  pub file : File
  pub lines : List (List ℕ)

-- both inputs, or the first refusal: the surface is judged before the script
abbrev pub both_inputs : Result File Refusal → Result (List (List ℕ)) Refusal → Result Inputs Refusal
both_inputs (Err refusal) lines = Err refusal
both_inputs (Ok file) (Err refusal) = Err refusal
both_inputs (Ok file) (Ok lines) = Ok (record { file = file; lines = lines })

-- what the bytes of the surface and the script hold for a run
abbrev pub inputs_of : RunRequest → List ℕ → List ℕ → Result Inputs Refusal
inputs_of run surface script = both_inputs (surface_of surface) (lines_to_answer run.script script)

-- the canonical text of the file of a state, where the words name a file to save
abbrev pub saved_of : Option (List ℕ) → State → Option (List ℕ)
saved_of save s = option_map (λ name. canonical (saved_file s)) save

-- the answers to the lines, and the text of the file that they leave
abbrev pub answered : Option (List ℕ) → Reply → State → Work
answered save reply after =
    record { accepted = reply.accepted; out = reply.text; saved = saved_of save after }

-- the answers to the lines in order, each on the state after the lines before it, and then the file of the last
-- state, where it is saved
abbrev pub IsOutcomeOfLines : Option (List ℕ) → Inputs → RunOutcome → Type 0
IsOutcomeOfLines save inputs o = (reply : Reply) × (after : State)
    × AreAnswers (first_state inputs.file) 1 inputs.lines reply after × (o ≡ Ok (answered save reply after))

-- the answers on both inputs, or the refusal of one of them
abbrev pub IsOutcomeOfInputs : Option (List ℕ) → Result Inputs Refusal → RunOutcome → Type 0
IsOutcomeOfInputs save inputs o =
    MatchResult inputs (λ both. IsOutcomeOfLines save both o) (λ refusal. o ≡ Err refusal)

-- what a run comes to
abbrev pub IsOutcomeOfRun : RunRequest → List ℕ → List ℕ → RunOutcome → Type 0
IsOutcomeOfRun run surface script o = IsOutcomeOfInputs run.save (inputs_of run surface script) o

-- the work of a check by which all rules hold
abbrev pub acceptance : Work
acceptance = record { accepted = true; out = accepted_text; saved = None }

-- what a verdict comes to: all rules hold, or one fails, and is told with its position
abbrev pub judges : Verdict → RunOutcome
judges Yes = Ok acceptance
judges (No rule at) = Err (RuleFails rule at)

-- the verdict on the certificate that was read, where Is tells the verdicts, or the first line that has not its form
abbrev pub IsOutcomeOfReading : {C : Type 0} → (C → Verdict → Type 0) → Result C CertificateError → RunOutcome → Type 0
IsOutcomeOfReading Is reading o = MatchResult reading
    (λ certificate. (verdict : Verdict) × Is certificate verdict × (o ≡ judges verdict))
    (λ error. (line : ℕ) × (error ≡ BadLine line) × (o ≡ Err (Unreadable line)))

-- whether the first of these words is `pruning`
abbrev pub names_pruning : List (List ℕ) → Bool
names_pruning [] = false
names_pruning (word ∷ words) = bytes_eq word (codes "pruning")

-- whether the first line of a text names a pruning
abbrev pub begins_pruning : List (List ℕ) → Bool
begins_pruning [] = false
begins_pruning (line ∷ lines) = names_pruning (words_of line)

-- what a certificate's text comes to on a map: a pruning certificate where the first word of its first line is
-- `pruning`, and else a saddle certificate
abbrev pub IsOutcomeOfKind : Bool → Map → List ℕ → RunOutcome → Type 0
IsOutcomeOfKind true m text o = IsOutcomeOfReading (pruning.IsVerdict m) (audit_of text) o
IsOutcomeOfKind false m text o = IsOutcomeOfReading (IsVerdict m) (certificate_of text) o

abbrev pub IsOutcomeOfCertificate : Map → List ℕ → RunOutcome → Type 0
IsOutcomeOfCertificate m text o = IsOutcomeOfKind (begins_pruning (lines_of text)) m text o

-- the certificate's text, if it is not too long
abbrev pub certificate_text_of : List ℕ → Result (List ℕ) Refusal
certificate_text_of bytes = if nat_lt certificate_limit (length bytes) then Err SecondTooLong else Ok bytes

-- what a check comes to: the surface is judged before the certificate
abbrev pub IsOutcomeOfCheck : List ℕ → List ℕ → RunOutcome → Type 0
IsOutcomeOfCheck surface certificate o = MatchResult (surface_of surface)
    (λ file. MatchResult (certificate_text_of certificate) (λ text. IsOutcomeOfCertificate file.map text o)
    (λ refusal. o ≡ Err refusal))
    (λ refusal. o ≡ Err refusal)
