-- What a check comes to, from its parts.
use Rattle.std.proofs.Common.{◌≡◌, ◌<◌, ◌≤◌, ℕ, Bool, true, false, List, length, Option, Result, Ok, Err, refl, sym, ap, ◌∙◌, subst, arith, nat_lt}
use Rattle.std.specs.Prelude.{MatchResult, OnErr, OnOk, is_err}
use Rattle.std.specs.Io.KnownBytes.{Appends}
use Rattle.std.proofs.KnownBytes.{Keeps-refl}
use Rattle.std.proofs.lemmas.Bool.Decides.{nat_tests}
use Rattle.hd_base.specs.Told.{AppendsPart}
use Rattle.hd_audit.specs.declared.types.Audit.{Audit}
use Rattle.hd_audit.specs.Reading.{audit_of}
use Rattle.hd_audit.specs.Rules as pruning
use Rattle.hd_check.specs.declared.types.Certificate.{Certificate}
use Rattle.hd_check.specs.declared.types.CertificateError.{CertificateError}
use Rattle.hd_check.specs.declared.types.CertificateError.TheVariants.{BadLine}
use Rattle.hd_check.specs.declared.types.Verdict.{Verdict}
use Rattle.hd_check.specs.Reading.{certificate_of}
use Rattle.hd_check.specs.Rules.{IsVerdict}
use Rattle.hd_map.specs.Map.{Map}
use Rattle.hd_num.specs.Lines.{lines_of}
use Rattle.hd_sdf_read.specs.File.{File}
use Rattle.hd_run.specs.declared.stop.Refusal.{Refusal}
use Rattle.hd_run.specs.declared.stop.Refusal.TheVariants.{SecondTooLong, Unreadable}
use Rattle.hd_run.specs.declared.stop.Stop.{Stop}
use Rattle.hd_run.specs.declared.stop.Stop.TheVariants.{Memory, ReadFault, WriteFault, Refused}
use Rattle.hd_run.specs.Limits.{certificate_limit}
use Rattle.hd_run.specs.Inputs.{IsCertificateRead, IsSurfaceRead}
use Rattle.hd_run.specs.Outcome.{RunOutcome, IsTheRunOutcome, IsOutcomeOfCertificate, IsOutcomeOfCheck, IsOutcomeOfKind, IsOutcomeOfReading, acceptance}
use Rattle.hd_run.specs.Outcome.{begins_pruning, certificate_text_of, judges, surface_of}
use Rattle.hd_run.specs.RunResult.{IsCheck, IsJudged}
use Rattle.hd_run.specs.Texts.{accepted_text}

-- that a certificate of either kind has one verdict on a map
pub record VerdictsAreDetermined : Type 0 where
  pub saddles : (m : Map) (c : Certificate) (v w : Verdict) → IsVerdict m c v → IsVerdict m c w → v ≡ w
  pub prunings : (m : Map) (a : Audit) (v w : Verdict) → pruning.IsVerdict m a v → pruning.IsVerdict m a w → v ≡ w

-- what holds of a value, and of an error
pub OnOk-holds : {T E P : Type 0} (r : Result T E) → is_err r ≡ false → OnOk r P → P
OnOk-holds (Ok x) fine h = h
OnOk-holds (Err e) fine h = absurd (cc)

pub OnErr-holds : {T E P : Type 0} (r : Result T E) → is_err r ≡ true → OnErr r P → P
OnErr-holds (Ok x) failed h = absurd (cc)
OnErr-holds (Err e) failed h = h

one_outcome : {C : Type 0} (Is : C → Verdict → Type 0) → ((c : C) (v w : Verdict) → Is c v → Is c w → v ≡ w) → (reading : Result C CertificateError) (a b : RunOutcome)
    → IsOutcomeOfReading Is reading a → IsOutcomeOfReading Is reading b → a ≡ b
one_outcome Is law (Ok certificate) a b (v, is, e) (w, is', e') = e ∙ ap judges (law certificate v w is is') ∙ sym e'
one_outcome Is law (Err error) a b (line, is, e) (line', is', e') =
    let told : BadLine line ≡ BadLine line' = sym is ∙ is' in
    let same : line ≡ line' = cc in
    e ∙ ap (λ n. Err (Unreadable n)) same ∙ sym e'

-- a certificate of either kind has one outcome
one_of_kind : VerdictsAreDetermined → (m : Map) (kind : Bool) (text : List ℕ) (a b : RunOutcome) → IsOutcomeOfKind kind m text a → IsOutcomeOfKind kind m text b → a ≡ b
one_of_kind laws m true text a b x y = one_outcome (pruning.IsVerdict m) (laws.prunings m) (audit_of text) a b x y
one_of_kind laws m false text a b x y = one_outcome (IsVerdict m) (laws.saddles m) (certificate_of text) a b x y

text_fits : (bytes : List ℕ) → length bytes ≤ certificate_limit → certificate_text_of bytes ≡ Ok bytes
text_fits bytes fits = let test : nat_lt certificate_limit (length bytes) ≡ false = grind (arith, nat_tests) in rw test refl

text_long : (bytes : List ℕ) → certificate_limit < length bytes → certificate_text_of bytes ≡ Err SecondTooLong
text_long bytes long = let test : nat_lt certificate_limit (length bytes) ≡ true = grind (arith, nat_tests) in rw test refl

module _ (surface second : List ℕ) where
  -- the outcome by what the certificate's bytes are, and by what the surface's hold
  abbrev AtText : Map → RunOutcome → Result (List ℕ) Refusal → Type 0
  AtText m o text = MatchResult text (λ t. IsOutcomeOfCertificate m t o) (λ refusal. o ≡ Err refusal)

  abbrev AtSurface : RunOutcome → Result File Refusal → Type 0
  AtSurface o file = MatchResult file (λ f. AtText f.map o (certificate_text_of second)) (λ refusal. o ≡ Err refusal)

  -- a refused surface is the outcome
  surface_refused : (refusal : Refusal) → surface_of surface ≡ Err refusal → IsTheRunOutcome (IsOutcomeOfCheck surface second) (Err refusal)
  surface_refused refusal refused = record { is = subst (AtSurface (Err refusal)) (sym refused) refl; only = λ other h. subst (AtSurface other) refused h }

  -- a surface that is not read stops a check
  pub IsCheck-surface_stops : (stop : Stop) (told : Option (List ℕ)) → IsSurfaceRead surface (Err stop) → IsCheck surface second (Err stop) told told
  IsCheck-surface_stops Memory told h = Keeps-refl told
  IsCheck-surface_stops ReadFault told h = Keeps-refl told
  IsCheck-surface_stops WriteFault told h = absurd h
  IsCheck-surface_stops (Refused refusal) told h = (surface_refused refusal h, Keeps-refl told)

  module _ (file : File) (read : surface_of surface ≡ Ok file) where
    at_text : (o : RunOutcome) (text : Result (List ℕ) Refusal) → certificate_text_of second ≡ text → AtText file.map o text → AtSurface o (surface_of surface)
    at_text o text is h = subst (AtSurface o) (sym read) (subst (AtText file.map o) (sym is) h)

    of_text : (o : RunOutcome) (text : Result (List ℕ) Refusal) → certificate_text_of second ≡ text → AtSurface o (surface_of surface) → AtText file.map o text
    of_text o text is h = subst (AtText file.map o) is (subst (AtSurface o) read h)

    -- a certificate that is too long is the outcome
    second_refused : (refusal : Refusal) → certificate_text_of second ≡ Err refusal → IsTheRunOutcome (IsOutcomeOfCheck surface second) (Err refusal)
    second_refused refusal refused = record { is = at_text (Err refusal) (Err refusal) refused refl; only = λ other h. of_text other (Err refusal) refused h }

    -- a certificate that is not read stops a check
    pub IsCheck-second_stops : (stop : Stop) (told : Option (List ℕ)) → IsCertificateRead second (Err stop) → IsCheck surface second (Err stop) told told
    IsCheck-second_stops Memory told h = Keeps-refl told
    IsCheck-second_stops ReadFault told h = Keeps-refl told
    IsCheck-second_stops WriteFault told h = absurd h
    IsCheck-second_stops (Refused refusal) told h = (second_refused refusal (text_long second h.0 ∙ ap Err (sym h.1)), Keeps-refl told)

    module _ (laws : VerdictsAreDetermined) (fits : length second ≤ certificate_limit) where
      -- what the certificate comes to is the outcome
      judged_is : (o : RunOutcome) → IsOutcomeOfCertificate file.map second o → IsTheRunOutcome (IsOutcomeOfCheck surface second) o
      judged_is o h = record {
        is = at_text o (Ok second) (text_fits second fits) h;
        only = λ other k. one_of_kind laws file.map (begins_pruning (lines_of second)) second other o (of_text other (Ok second) (text_fits second fits) k) h;
      }

      -- a certificate that is refused stops a check
      pub IsCheck-judge_stops : (T : Type 0) (stop : Stop) (told : Option (List ℕ)) → IsJudged {T = T} file.map second (Err stop) → IsCheck surface second (Err stop) told told
      IsCheck-judge_stops T Memory told h = Keeps-refl told
      IsCheck-judge_stops T ReadFault told h = absurd h
      IsCheck-judge_stops T WriteFault told h = absurd h
      IsCheck-judge_stops T (Refused refusal) told h = (judged_is (Err refusal) h, Keeps-refl told)

      -- a certificate that is accepted
      pub IsCheck-accepts : (old new : Option (List ℕ)) → IsOutcomeOfCertificate file.map second (Ok acceptance) → Appends old new accepted_text → IsCheck surface second (Ok true) old new
      IsCheck-accepts old new h written = (refl, judged_is (Ok acceptance) h, written)

      -- a certificate that is accepted, where this cannot be written
      pub IsCheck-cut_short : (old new : Option (List ℕ)) → IsOutcomeOfCertificate file.map second (Ok acceptance) → AppendsPart old new accepted_text → IsCheck surface second (Err WriteFault) old new
      IsCheck-cut_short old new h part = (judged_is (Ok acceptance) h, part)
