-- What stops a run or a check, from what stops its parts.
use Rattle.std.proofs.Common.{◌≡◌, Result, Ok, Err, ℕ, inl, inr, ap, subst}
use Rattle.std.specs.Prelude.{◌≢◌, IfErr}
use Rattle.hd_run.specs.declared.stop.Stop.{Stop}
use Rattle.hd_run.specs.declared.stop.Stop.TheVariants.{ReadFault, Refused, WriteFault}
use Rattle.hd_run.specs.declared.stop.Refusal.{Refusal}
use Rattle.hd_run.specs.FaultCounts.{Count, Stays}
use Rattle.hd_run.specs.Inputs.{HasReadStop}
use Rattle.hd_run.specs.Outcome.{RunOutcome}
use Rattle.hd_run.specs.ReadOrder.{IsNotOfSurface, IsOfSurface}
use Rattle.hd_run.specs.RunResult.{HasRunStop, HasSinkStop, IsJudgedAs}
use Rattle.hd_run.specs.WrittenAnswers.{HasWriteStop}

-- a value is no error, and one fault is not the other
pub ok≢err : {T E : Type 0} (x : T) (e : E) → Ok x ≢ Err e
ok≢err x e is = cc

pub write≢read : {T : Type 0} (result : Result T Stop) → result ≡ Err WriteFault → result ≢ Err ReadFault
write≢read result is e = cc

-- what is read leaves the count of faults
pub HasReadStop-ok : {T : Type 0} (before now : ℕ) (x : T) → HasReadStop before now (Ok x) → now ≡ before
HasReadStop-ok before now x cause = cause.no_fault (ok≢err x ReadFault)

-- the same stop, whatever was to be read
pub HasReadStop-moved : {T U : Type 0} (before now : ℕ) (stop : Stop) → HasReadStop {T = T} before now (Err stop) → HasReadStop {T = U} before now (Err stop)
HasReadStop-moved before now stop h = record {
  fault = λ e. let same : stop ≡ ReadFault = cc in h.fault (ap Err same);
  no_fault = λ other. h.no_fault (λ e. let same : stop ≡ ReadFault = cc in other (ap Err same));
  no_write = λ e. let same : stop ≡ WriteFault = cc in h.no_write (ap Err same);
}

-- what is written leaves it
pub HasWriteStop-ok : {T : Type 0} (before now : ℕ) (x : T) → HasWriteStop before now (Ok x) → now ≡ before
HasWriteStop-ok before now x cause = cause.no_fault (ok≢err x WriteFault)

-- where no source is read no source fails
pub HasSinkStop-no_read_fault : {T : Type 0} (out saved : Count) (result : Result T Stop) → HasSinkStop out saved result → result ≢ Err ReadFault
HasSinkStop-no_read_fault out saved result cause e = elim (cause.only ReadFault e) [ inl w ↦ absurd (cc) | inr w ↦ absurd (cc) ]

-- and nothing is refused
pub HasSinkStop-no_refusal : {T : Type 0} (out saved : Count) (result : Result T Stop) → HasSinkStop out saved result → (refusal : Refusal) → result ≢ Err (Refused refusal)
HasSinkStop-no_refusal out saved result cause refusal e = elim (cause.only (Refused refusal) e) [ inl w ↦ absurd (cc) | inr w ↦ absurd (cc) ]

-- a stop for another cause than a refusal of the surface is none
pub IsNotOfSurface-result : {T : Type 0} (result : Result T Stop) (refusal : Refusal) → IfErr result IsNotOfSurface → result ≡ Err (Refused refusal) → IsOfSurface refusal → ⊥
IsNotOfSurface-result {T} result refusal other is = subst (λ (r : Result T Stop). IfErr r IsNotOfSurface) is other

pub IsNotOfSurface-stop : {T : Type 0} (stop : Stop) (refusal : Refusal) → IsNotOfSurface stop → ◌≡◌ {A = Result T Stop} (Err stop) (Err (Refused refusal)) → IsOfSurface refusal → ⊥
IsNotOfSurface-stop {T} stop refusal other is = IsNotOfSurface-result {T = T} (Err stop) refusal other is

-- what is judged is no fault
pub IsJudgedAs-no_read_fault : {T : Type 0} (Is : RunOutcome → Type 0) (result : Result T Stop) → IsJudgedAs {T = T} Is result → result ≢ Err ReadFault
IsJudgedAs-no_read_fault {T} Is result judged e = subst (λ (r : Result T Stop). IsJudgedAs {T = T} Is r) e judged

pub IsJudgedAs-no_write_fault : {T : Type 0} (Is : RunOutcome → Type 0) (result : Result T Stop) → IsJudgedAs {T = T} Is result → result ≢ Err WriteFault
IsJudgedAs-no_write_fault {T} Is result judged e = subst (λ (r : Result T Stop). IsJudgedAs {T = T} Is r) e judged

-- the same stop is no read fault, whatever was to be had
pub ReadFault-moved : {T U : Type 0} (stop : Stop) → ◌≢◌ {A = Result T Stop} (Err stop) (Err ReadFault) → ◌≢◌ {A = Result U Stop} (Err stop) (Err ReadFault)
ReadFault-moved stop no_fault e = let same : stop ≡ ReadFault = cc in no_fault (ap Err same)

module _ {U : Type 0} (surface script out saved : Count) (stop : Stop) where
  -- the surface is not read
  pub HasRunStop-surface : {T : Type 0} → HasReadStop {T = T} surface.before surface.now (Err stop) → Stays script → Stays out → Stays saved → HasRunStop {T = U} surface script out saved (Err stop)
  HasRunStop-surface cause b c d = record {
    read = λ e. let same : stop ≡ ReadFault = cc in (inl (cause.fault (ap Err same), b), c, d);
    write = λ e. let same : stop ≡ WriteFault = cc in absurd (cause.no_write (ap Err same));
    other = λ not_read not_write. (cause.no_fault (λ e. let same : stop ≡ ReadFault = cc in not_read (ap Err same)), b, c, d);
  }

  -- the second input is not read
  pub HasRunStop-second : {T : Type 0} → Stays surface → HasReadStop {T = T} script.before script.now (Err stop) → Stays out → Stays saved → HasRunStop {T = U} surface script out saved (Err stop)
  HasRunStop-second a cause c d = record {
    read = λ e. let same : stop ≡ ReadFault = cc in (inr (a, cause.fault (ap Err same)), c, d);
    write = λ e. let same : stop ≡ WriteFault = cc in absurd (cause.no_write (ap Err same));
    other = λ not_read not_write. (a, cause.no_fault (λ e. let same : stop ≡ ReadFault = cc in not_read (ap Err same)), c, d);
  }

  -- the certificate is refused
  pub HasRunStop-judged : {T : Type 0} → ◌≢◌ {A = Result T Stop} (Err stop) (Err ReadFault) → ◌≢◌ {A = Result T Stop} (Err stop) (Err WriteFault) → Stays surface → Stays script
      → Stays out → Stays saved
      → HasRunStop {T = U} surface script out saved (Err stop)
  HasRunStop-judged no_fault no_write a b c d = record {
    read = λ e. let same : stop ≡ ReadFault = cc in absurd (no_fault (ap Err same));
    write = λ e. let same : stop ≡ WriteFault = cc in absurd (no_write (ap Err same));
    other = λ _ _. (a, b, c, d);
  }

-- both inputs are read, and the lines answered or not
pub HasRunStop-answering : {T : Type 0} (surface script out saved : Count) (result : Result T Stop) → Stays surface → Stays script → HasSinkStop out saved result
    → HasRunStop surface script out saved result
HasRunStop-answering surface script out saved result a b cause = record {
  read = λ e. absurd (HasSinkStop-no_read_fault out saved result cause e);
  write = λ e. (a, b, cause.write e);
  other = λ not_read not_write. let still = cause.other not_write in (a, b, still.0, still.1);
}
