-- How the program ends, from what its run came to and how its last text is written.
use Rattle.std.proofs.Common.{◌≡◌, ◌++◌, ℕ, Bool, true, false, List, [], Option, Some, None, Result, Ok, Err, inl, inr, ◌⊎◌, ◌≢◌, refl, sym, ap, ◌∙◌, subst, append-nil, MatchOption, IsTrue, length}
use Rattle.std.specs.Io.KnownBytes.{Appends, Keeps}
use Rattle.std.proofs.KnownBytes.{Appends-trans, Appends-nil, Appends-kept, Keeps-refl, Keeps-trans}
use Rattle.std.proofs.Math.Seq.{take-length, take-nil}
use Rattle.hd_base.specs.Told.{AppendsStart}
use Rattle.hd_base.proofs.Told.{AppendsPart-kept}
use Rattle.hd_words.specs.declared.demo.Demo.{Demo}
use Rattle.hd_words.specs.Forms.{form_of}
use Rattle.hd_words.specs.Requests.{Request, Demonstrate, save_name, second_name, surface_name}
use Rattle.hd_run.specs.declared.stop.Refusal.{Refusal}
use Rattle.hd_run.specs.declared.stop.Refusal.TheVariants.{SurfaceTooLong, Surface, SecondTooLong, Unreadable, RuleFails}
use Rattle.hd_run.specs.declared.stop.Stop.{Stop}
use Rattle.hd_run.specs.declared.stop.Stop.TheVariants as stop
use Rattle.hd_run.specs.FaultCounts.{Count, OneRose, RoseIn, Stays}
use Rattle.hd_run.specs.Limits.{surface_limit}
use Rattle.hd_run.specs.Outcome.{RunOutcome, IsTheRunOutcome}
use Rattle.hd_run.specs.ReadOrder.{IsOfSurface, Reading, SecondComesLast, StopsWithin}
use Rattle.hd_run.specs.Refusals.{refusal_text}
use Rattle.hd_run.specs.RunResult.{HasRunStop}
use Rattle.hd_run.specs.Saving.{Saving, IsSavedAs, SavesLast}
use Rattle.hd_program.specs.declared.status.Status.{Status}
use Rattle.hd_program.specs.declared.status.Status.TheVariants.{Done, LineRefused, Usage, SurfaceRefused, ReadFault, WriteFault, Memory}
use Rattle.hd_program.specs.Ending.{AnswersFew, Completes, IsTheOutcome, EndsAs, EndsDemo, EndsRun, Finishes, IsCutAs}
use Rattle.hd_program.specs.Outcome.{Outcome, IsOutcomeOfRequest, outcome_of, tells}
use Rattle.hd_program.specs.Status.{HasStatusCause, refusal_status, status_of}
use Rattle.hd_program.specs.Texts.{usage_text, read_fault_text}
use Rattle.hd_program.specs.WorkOrder.{ReadsInOrder, ReadsWithin, SavesInTurn, second_limit}
use Rattle.hd_program.proofs.IsWork.{IsWork}

-- words that have a form
pub form-some : {A : Type 0} (form : Option A) (x : A) → form ≡ Some x → form ≢ None
form-some form x is none = cc

one_form : {A : Type 0} (form : Option A) (x y : A) → form ≡ Some x → form ≡ Some y → x ≡ y
one_form form x y is also = cc

-- nothing before, and then a text, or some first bytes of it
kept_text : (old mid new : Option (List ℕ)) (text : List ℕ) → Keeps old mid → Appends mid new text → Appends old new text
kept_text old mid new text kept written = Appends-trans old mid new [] text (Appends-kept old old mid [] (Appends-nil old) kept) written

kept_start : (old mid new : Option (List ℕ)) (text : List ℕ) → Keeps old mid → AppendsStart mid new text → AppendsStart old new text
kept_start old mid new text kept (got, begins, written) = (got, begins, kept_text old mid new got kept written)

start_kept : (old mid new : Option (List ℕ)) (text : List ℕ) → AppendsStart old mid text → Keeps mid new → AppendsStart old new text
start_kept old mid new text (got, begins, written) kept = (got, begins, Appends-kept old mid new got written kept)

-- a whole text is some first bytes of it, and of no text there are none
start_all : (old new : Option (List ℕ)) (text : List ℕ) → Appends old new text → AppendsStart old new text
start_all old new text written = (text, take-length text, written)

start_none : (old mid new : Option (List ℕ)) (text : List ℕ) → Appends old mid text → AppendsStart mid new [] → Appends old new text
start_none old mid new text written (got, begins, more) =
    let none : got ≡ [] = sym begins ∙ take-nil (length got) in
    subst (λ (xs : List ℕ). Appends old new xs) (ap (λ (xs : List ℕ). text ++ xs) none ∙ append-nil text) (Appends-trans old mid new text got written more)

module _ (stays : Type 0) (s : Saving) (out : List ℕ) (old mid new : Option (List ℕ)) where
  -- all of the output is written, and then the flush fails
  cut_last : (saved : Option (List ℕ)) → IsSavedAs stays s saved → Appends old mid out → AppendsStart mid new [] → IsCutAs stays s saved out old new
  cut_last None kept written none = (kept, start_all old new out (start_none old mid new out written none))
  cut_last (Some text) all written none = (all, start_none old mid new out written none)

  cut_kept : (saved : Option (List ℕ)) → IsCutAs stays s saved out old mid → Keeps mid new → IsCutAs stays s saved out old new
  cut_kept None (still, part) kept = (still, start_kept old mid new out part kept)
  cut_kept (Some text) (all, written) kept = (all, Appends-kept old mid new out written kept)

module _ (words : List (List ℕ)) (surface script : List ℕ) (failed stays : Type 0) (s : Saving) where
  -- the outcome is a text, which is written whole or cut short
  text_ends : (text : List ℕ) (wanted status : Status) (old mid new : Option (List ℕ)) (flushed : Bool) (faults : Count) → Keeps old mid → IsTheOutcome words surface script (tells wanted text) → stays
      → (Completes words surface script stays s wanted old new → EndsAs words surface script failed stays s wanted old new) → Finishes text wanted status mid new flushed faults
      → EndsAs words surface script failed stays s status old new
  text_ends text wanted status old mid new flushed faults before the kept same finish = elim finish [
    | inl w ↦ subst (λ t. EndsAs words surface script failed stays s t old new) (sym w.status_is) (same (tells wanted text, the, refl, kept_text old mid new text before w.written, kept))
    | inr cut ↦ subst (λ t. EndsAs words surface script failed stays s t old new) (sym cut.status_is) (inr (inl (tells wanted text, the, (kept, kept_start old mid new text before cut.written))))
  ]

  -- words without their form
  pub EndsAs-usage : (got : List ℕ) (status : Status) (old new : Option (List ℕ)) (flushed : Bool) (faults : Count) → form_of words ≡ None → got ≡ usage_text → stays
      → Finishes got Usage status old new flushed faults → EndsAs words surface script failed stays s status old new
  EndsAs-usage got status old new flushed faults none e kept finish =
      let P : Outcome → Option Request → Type 0 = λ o form. MatchOption form (o ≡ tells Usage usage_text) (λ request. IsOutcomeOfRequest request surface script o) in
      let o : Outcome = tells Usage usage_text in
      text_ends usage_text Usage status old old new flushed faults (Keeps-refl old) (record { is = subst (P o) (sym none) refl; only = λ o' h. subst (P o') none h })
      kept (λ h. h) (subst (λ xs. Finishes xs Usage status old new flushed faults) e finish)

  module _ (request : Request) (named : form_of words ≡ Some request) where
    -- the outcome where the words have this form
    abbrev AtForm : Outcome → Option Request → Type 0
    AtForm o form = MatchOption form (o ≡ tells Usage usage_text) (λ r. IsOutcomeOfRequest r surface script o)

    -- the outcome of the request is that of the words
    the_outcome : (o : Outcome) → IsOutcomeOfRequest request surface script o → ((other : Outcome) → IsOutcomeOfRequest request surface script other → other ≡ o) → IsTheOutcome words surface script o
    the_outcome o is only = record { is = subst (AtForm o) (sym named) is; only = λ other h. only other (subst (AtForm other) named h) }

    -- the status of a refusal asks for all of the output
    refused_as : (refusal : Refusal) (old new : Option (List ℕ)) → Completes words surface script stays s (refusal_status refusal) old new
        → EndsAs words surface script failed stays s (refusal_status refusal) old new
    refused_as SurfaceTooLong old new h = h
    refused_as (Surface error) old new h = h
    refused_as SecondTooLong old new h = h
    refused_as (Unreadable line) old new h = h
    refused_as (RuleFails rule at) old new h = h

    module _ (Is : RunOutcome → Type 0) (Begins : List ℕ → Type 0) (from : (o : Outcome) → IsOutcomeOfRequest request surface script o → (end : RunOutcome) × Is end × (o ≡ outcome_of end))
        (to : (end : RunOutcome) → Is end → IsOutcomeOfRequest request surface script (outcome_of end)) (few : (text : List ℕ) → Begins text → AnswersFew request surface script text) where
      the_run : (end : RunOutcome) → IsTheRunOutcome Is end → IsTheOutcome words surface script (outcome_of end)
      the_run end the = the_outcome (outcome_of end) (to end the.is) (λ other h. let k = from other h in k.2 ∙ ap outcome_of (the.only k.0 k.1))

      -- all lines are answered
      answered_ends : (accepted : Bool) (status : Status) (old mid new : Option (List ℕ)) (flushed : Bool) (faults : Count) → IsWork Is Begins stays s (Ok accepted) old mid
          → (Completes words surface script stays s (status_of accepted) old new → EndsAs words surface script failed stays s (status_of accepted) old new)
          → Finishes [] (status_of accepted) status mid new flushed faults → EndsAs words surface script failed stays s status old new
      answered_ends accepted status old mid new flushed faults (work, the, accepted_is, written, saved) same finish = elim finish [
        | inl w ↦ subst (λ t. EndsAs words surface script failed stays s t old new) (sym w.status_is)
            (same (outcome_of (Ok work), the_run (Ok work) the, ap status_of accepted_is, start_none old mid new work.out written (start_all mid new [] w.written), saved))
        | inr cut ↦ subst (λ t. EndsAs words surface script failed stays s t old new) (sym cut.status_is)
            (inr (inl (outcome_of (Ok work), the_run (Ok work) the, cut_last stays s work.out old mid new work.saved saved written cut.written)))
      ]

      -- what `out` and `saved` hold at the end, from what the run came to
      pub EndsAs-run : (result : Result Bool Stop) (status : Status) (old mid new : Option (List ℕ)) (flushed : Bool) (faults : Count) → (result ≡ Err stop.ReadFault → failed)
          → ((why : Stop) → result ≡ Err why → why ≢ stop.WriteFault → stays) → IsWork Is Begins stays s result old mid → EndsRun result status mid new flushed faults
          → EndsAs words surface script failed stays s status old new
      EndsAs-run (Ok true) status old mid new flushed faults cause unsaved run finish = answered_ends true status old mid new flushed faults run (λ h. h) finish
      EndsAs-run (Ok false) status old mid new flushed faults cause unsaved run finish = answered_ends false status old mid new flushed faults run (λ h. h) finish
      EndsAs-run (Err stop.Memory) status old mid new flushed faults cause unsaved run end =
          subst (λ t. EndsAs words surface script failed stays s t old new) (sym end.status_is) (
            unsaved stop.Memory refl (λ e. cc),
            elim run [
              | inl kept ↦ inl (Keeps-trans old mid new kept end.kept)
              | inr more ↦ inr (more.0, (request, named, few more.0 more.1), Appends-kept old mid new more.0 more.2 end.kept)
            ],
          )
      EndsAs-run (Err stop.WriteFault) status old mid new flushed faults cause unsaved (inl (kept, text, begun, part)) end =
          subst (λ t. EndsAs words surface script failed stays s t old new) (sym end.status_is)
          (inl (kept, inl (text, (request, named, few text begun), AppendsPart-kept old mid new text part end.kept)))
      EndsAs-run (Err stop.WriteFault) status old mid new flushed faults cause unsaved (inr (work, the, inl (text, is, some, written))) end =
          subst (λ t. EndsAs words surface script failed stays s t old new) (sym end.status_is)
          (inr (inr (outcome_of (Ok work), text, the_run (Ok work) the, is, some, Appends-kept old mid new work.out written end.kept)))
      EndsAs-run (Err stop.WriteFault) status old mid new flushed faults cause unsaved (inr (work, the, inr cut)) end =
          subst (λ t. EndsAs words surface script failed stays s t old new) (sym end.status_is)
          (inr (inl (outcome_of (Ok work), the_run (Ok work) the, cut_kept stays s work.out old mid new work.saved cut end.kept)))
      EndsAs-run (Err stop.ReadFault) status old mid new flushed faults cause unsaved kept finish =
          let still = unsaved stop.ReadFault refl (λ e. cc) in
          elim finish [
            | inl w ↦ subst (λ t. EndsAs words surface script failed stays s t old new) (sym w.status_is) (cause refl, still, kept_text old mid new read_fault_text kept w.written)
            | inr cut ↦ subst (λ t. EndsAs words surface script failed stays s t old new) (sym cut.status_is) (inl (still, inr (cause refl, kept_start old mid new read_fault_text kept cut.written)))
          ]
      EndsAs-run (Err (stop.Refused refusal)) status old mid new flushed faults cause unsaved run end =
          let still = unsaved (stop.Refused refusal) refl (λ e. cc) in
          elim end [
            | inl w ↦ subst (λ t. EndsAs words surface script failed stays s t old new) (sym w.status_is) (still, inl (Keeps-trans old mid new run.1 w.kept))
            | inr finish ↦ text_ends (refusal_text refusal) (refusal_status refusal) status old mid new flushed faults run.1 (the_run (Err refusal) run.0) still (refused_as refusal old new) finish
          ]

  -- what they hold at the end of a demo
  pub EndsAs-demo : (demo : Demo) (status : Status) (old new : Option (List ℕ)) (flushed : Bool) (faults : Count) → form_of words ≡ Some (Demonstrate demo) → stays
      → EndsDemo demo status old new flushed faults
      → EndsAs words surface script failed stays s status old new
  EndsAs-demo demo status old new flushed faults named kept (inl stop) = subst (λ t. EndsAs words surface script failed stays s t old new) (sym stop.status_is) (kept, inl stop.kept)
  EndsAs-demo demo status old new flushed faults named kept (inr (text, the, finish)) =
      text_ends text Done status old old new flushed faults (Keeps-refl old)
      (the_outcome (Demonstrate demo) named (tells Done text) (text, the.is, refl) (λ other h. h.2 ∙ ap (tells Done) (the.only h.0 h.1))) kept (λ h. h) finish

-- a text that is to be written is written and flushed, or the sink failed
finished : (bytes : List ℕ) (wanted status : Status) (old new : Option (List ℕ)) (flushed : Bool) (faults : Count) → Finishes bytes wanted status old new flushed faults → status ≢ WriteFault
    → (status ≡ wanted) × Appends old new bytes × IsTrue flushed × Stays faults
finished bytes wanted status old new flushed faults finish fine = elim finish [
  | inl w ↦ (w.status_is, w.written, w.flushed_all, w.count)
  | inr cut ↦ absurd (fine cut.status_is)
]

-- a refusal is told by no other status
refusal_is : (refusal : Refusal) → (refusal_status refusal ≢ ReadFault) × (refusal_status refusal ≢ WriteFault) × (refusal_status refusal ≢ Usage)
refusal_is SurfaceTooLong = (λ e. cc, λ e. cc, λ e. cc)
refusal_is (Surface error) = (λ e. cc, λ e. cc, λ e. cc)
refusal_is SecondTooLong = (λ e. cc, λ e. cc, λ e. cc)
refusal_is (Unreadable line) = (λ e. cc, λ e. cc, λ e. cc)
refusal_is (RuleFails rule at) = (λ e. cc, λ e. cc, λ e. cc)

-- a refusal with the status of a refused surface is one of the surface
refuses_surface : (refusal : Refusal) → refusal_status refusal ≡ SurfaceRefused → IsOfSurface refusal
refuses_surface SurfaceTooLong e = tt
refuses_surface (Surface error) e = tt
refuses_surface SecondTooLong e = absurd (cc)
refuses_surface (Unreadable line) e = absurd (cc)
refuses_surface (RuleFails rule at) e = absurd (cc)

-- a refusal is told by neither of the statuses of all lines
refusal_ends : (refusal : Refusal) {status : Status} → refusal_status refusal ≡ status → (status ≡ Done) ⊎ (status ≡ LineRefused) → ⊥
refusal_ends SurfaceTooLong e is = elim is [ inl a ↦ cc | inr b ↦ cc ]
refusal_ends (Surface error) e is = elim is [ inl a ↦ cc | inr b ↦ cc ]
refusal_ends SecondTooLong e is = elim is [ inl a ↦ cc | inr b ↦ cc ]
refusal_ends (Unreadable line) e is = elim is [ inl a ↦ cc | inr b ↦ cc ]
refusal_ends (RuleFails rule at) e is = elim is [ inl a ↦ cc | inr b ↦ cc ]

module _ (status : Status) (old mid new : Option (List ℕ)) (flushed : Bool) where
  -- all is flushed but after a write fault and want of memory
  pub EndsRun-flushed : (result : Result Bool Stop) (faults : Count) → EndsRun result status mid new flushed faults → status ≢ WriteFault → status ≢ Memory → IsTrue flushed
  EndsRun-flushed (Ok accepted) faults end fine kept = (finished [] (status_of accepted) status mid new flushed faults end fine).2
  EndsRun-flushed (Err stop.Memory) faults end fine kept = absurd (kept end.status_is)
  EndsRun-flushed (Err stop.WriteFault) faults end fine kept = absurd (fine end.status_is)
  EndsRun-flushed (Err stop.ReadFault) faults end fine kept = (finished read_fault_text ReadFault status mid new flushed faults end fine).2
  EndsRun-flushed (Err (stop.Refused refusal)) faults end fine kept = elim end [
    | inl w ↦ absurd (kept w.status_is)
    | inr finish ↦ (finished (refusal_text refusal) (refusal_status refusal) status mid new flushed faults finish fine).2
  ]

  -- the line of a read fault is written where the status is that
  pub EndsRun-read_fault : (result : Result Bool Stop) (faults : Count) → EndsRun result status mid new flushed faults → (result ≡ Err stop.ReadFault → Keeps old mid)
      → status ≡ ReadFault → Appends old new read_fault_text
  EndsRun-read_fault (Ok true) faults end kept is = absurd (let e = (finished [] (status_of true) status mid new flushed faults end (λ w. cc)).0 in cc)
  EndsRun-read_fault (Ok false) faults end kept is = absurd (let e = (finished [] (status_of false) status mid new flushed faults end (λ w. cc)).0 in cc)
  EndsRun-read_fault (Err stop.Memory) faults end kept is = absurd (let e = end.status_is in cc)
  EndsRun-read_fault (Err stop.WriteFault) faults end kept is = absurd (let e = end.status_is in cc)
  EndsRun-read_fault (Err stop.ReadFault) faults end kept is = kept_text old mid new read_fault_text (kept refl) (finished read_fault_text ReadFault status mid new flushed faults end (λ w. cc)).1
  EndsRun-read_fault (Err (stop.Refused refusal)) faults end kept is = elim end [
    | inl w ↦ absurd (let e = w.status_is in cc)
    | inr finish ↦ absurd ((refusal_is refusal).0 (sym (finished (refusal_text refusal) (refusal_status refusal) status mid new flushed faults finish (λ w. cc)).0 ∙ is))
  ]

module _ (surface script saved : Count) (before mid now : ℕ) (status : Status) (old new : Option (List ℕ)) (flushed : Bool) where
  -- the sink failed at the last text, after no source did, or one
  cut_cause : (Stays surface × Stays script) ⊎ OneRose surface script → Stays saved → mid ≡ before → status ≡ WriteFault → RoseIn (record { before = mid; now = now })
      → HasStatusCause status surface script (record { before = before; now = now }) saved
  cut_cause sources kept same is rose = let later = subst (λ n. RoseIn (record { before = n; now = now })) same rose in record {
    read = λ e. absurd (cc);
    write = λ e. elim sources [ inl still ↦ inl (still.0, still.1, inl (later, kept)) | inr one ↦ inr (one, later, kept) ];
    other = λ not_read not_write. absurd (not_write is);
  }

  finish_cause : (bytes : List ℕ) (wanted : Status) → wanted ≢ ReadFault → wanted ≢ WriteFault → Stays surface × Stays script × Stays (record { before = before; now = mid }) × Stays saved
      → Finishes bytes wanted status old new flushed (record { before = mid; now = now }) → HasStatusCause status surface script (record { before = before; now = now }) saved
  finish_cause bytes wanted not_read not_write (s, r, o, kept) finish = elim finish [
    | inl w ↦ record { read = λ e. absurd (not_read (sym w.status_is ∙ e)); write = λ e. absurd (not_write (sym w.status_is ∙ e)); other = λ _ _. (s, r, w.count ∙ o, kept) }
    | inr cut ↦ cut_cause (inl (s, r)) kept o cut.status_is cut.count
  ]

  -- why a status comes, from why the run stopped
  pub EndsRun-cause : (result : Result Bool Stop) → HasRunStop surface script (record { before = before; now = mid }) saved result
      → EndsRun result status old new flushed (record { before = mid; now = now })
      → HasStatusCause status surface script (record { before = before; now = now }) saved
  EndsRun-cause (Ok true) run end = finish_cause [] (status_of true) (λ e. cc) (λ e. cc) (run.other (λ e. cc) (λ e. cc)) end
  EndsRun-cause (Ok false) run end = finish_cause [] (status_of false) (λ e. cc) (λ e. cc) (run.other (λ e. cc) (λ e. cc)) end
  EndsRun-cause (Err stop.Memory) run end =
      let stays = run.other (λ e. cc) (λ e. cc) in
      let is : status ≡ Memory = end.status_is in
      record { read = λ e. absurd (cc); write = λ e. absurd (cc); other = λ _ _. (stays.0, stays.1, end.count ∙ stays.2, stays.3) }
  EndsRun-cause (Err stop.WriteFault) run end =
      let is : status ≡ WriteFault = end.status_is in
      record {
        read = λ e. absurd (cc);
        write = λ e. let why = run.write refl in
            inl (why.0, why.1, elim why.2 [ inl x ↦ inl (subst (λ n. RoseIn (record { before = before; now = n })) (sym end.count) x.0, x.1) | inr x ↦ inr (end.count ∙ x.0, x.1) ]);
        other = λ _ not_write. absurd (not_write is);
      }
  EndsRun-cause (Err stop.ReadFault) run finish = elim finish [
    | inl w ↦
        let is : status ≡ ReadFault = w.status_is in
        let why = run.read refl in
        record { read = λ e. (why.0, w.count ∙ why.1, why.2); write = λ e. absurd (cc); other = λ not_read _. absurd (not_read is) }
    | inr cut ↦ let why = run.read refl in cut_cause (inr why.0) why.2 why.1 cut.status_is cut.count
  ]
  EndsRun-cause (Err (stop.Refused refusal)) run end =
      let stays = run.other (λ e. cc) (λ e. cc) in
      let other = refusal_is refusal in
      elim end [
        | inl w ↦ let is : status ≡ Memory = w.status_is in record { read = λ e. absurd (cc); write = λ e. absurd (cc); other = λ _ _. (stays.0, stays.1, w.count ∙ stays.2, stays.3) }
        | inr finish ↦ finish_cause (refusal_text refusal) (refusal_status refusal) other.0 other.1 stays finish
      ]

-- a run that ends with neither of the two statuses of all lines, nor with a write fault, stopped for another cause
module _ (status : Status) (old new : Option (List ℕ)) (flushed : Bool) (faults : Count) where
  stopped_early : {P : Type 0} (result : Result Bool Stop) → ((why : Stop) → result ≡ Err why → why ≢ stop.WriteFault → P) → EndsRun result status old new flushed faults
      → status ≢ Done → status ≢ LineRefused → status ≢ WriteFault → P
  stopped_early (Ok true) known end a b d = absurd (a (finished [] (status_of true) status old new flushed faults end d).0)
  stopped_early (Ok false) known end a b d = absurd (b (finished [] (status_of false) status old new flushed faults end d).0)
  stopped_early (Err stop.WriteFault) known end a b d = absurd (d end.status_is)
  stopped_early (Err stop.Memory) known end a b d = known stop.Memory refl (λ e. cc)
  stopped_early (Err stop.ReadFault) known end a b d = known stop.ReadFault refl (λ e. cc)
  stopped_early (Err (stop.Refused refusal)) known end a b d = known (stop.Refused refusal) refl (λ e. cc)

  -- a run with one of these statuses answered all lines
  all_done : {P : Type 0} (result : Result Bool Stop) → ((accepted : Bool) → result ≡ Ok accepted → P) → EndsRun result status old new flushed faults → (status ≡ Done) ⊎ (status ≡ LineRefused) → P
  all_done (Ok accepted) known end is = known accepted refl
  all_done (Err stop.Memory) known end is = let e = end.status_is in elim is [ inl a ↦ absurd (cc) | inr b ↦ absurd (cc) ]
  all_done (Err stop.WriteFault) known end is = let e = end.status_is in elim is [ inl a ↦ absurd (cc) | inr b ↦ absurd (cc) ]
  all_done (Err stop.ReadFault) known end is = elim end [
    | inl w ↦ let e = w.status_is in elim is [ inl a ↦ absurd (cc) | inr b ↦ absurd (cc) ]
    | inr cut ↦ let e = cut.status_is in elim is [ inl a ↦ absurd (cc) | inr b ↦ absurd (cc) ]
  ]
  all_done (Err (stop.Refused refusal)) known end is = elim end [
    | inl w ↦ let e = w.status_is in elim is [ inl a ↦ absurd (cc) | inr b ↦ absurd (cc) ]
    | inr finish ↦ elim finish [
      | inl w ↦ absurd (refusal_ends refusal (sym w.status_is) is)
      | inr cut ↦ let e = cut.status_is in elim is [ inl a ↦ absurd (cc) | inr b ↦ absurd (cc) ]
    ]
  ]

  -- a run that ends as one that refuses the surface refused it
  pub EndsRun-unread : {P : Type 0} (result : Result Bool Stop) → ((refusal : Refusal) → result ≡ Err (stop.Refused refusal) → IsOfSurface refusal → P)
      → EndsRun result status old new flushed faults → status ≡ SurfaceRefused → P
  EndsRun-unread (Ok true) known end is = absurd (let e = (finished [] (status_of true) status old new flushed faults end (λ w. cc)).0 in cc)
  EndsRun-unread (Ok false) known end is = absurd (let e = (finished [] (status_of false) status old new flushed faults end (λ w. cc)).0 in cc)
  EndsRun-unread (Err stop.Memory) known end is = absurd (let e = end.status_is in cc)
  EndsRun-unread (Err stop.WriteFault) known end is = absurd (let e = end.status_is in cc)
  EndsRun-unread (Err stop.ReadFault) known end is = absurd (let e = (finished read_fault_text ReadFault status old new flushed faults end (λ w. cc)).0 in cc)
  EndsRun-unread (Err (stop.Refused refusal)) known end is = elim end [
    | inl w ↦ absurd (let e = w.status_is in cc)
    | inr finish ↦ known refusal refl (refuses_surface refusal (sym (finished (refusal_text refusal) (refusal_status refusal) status old new flushed faults finish (λ w. cc)).0 ∙ is))
  ]

  fault_count : (result : Result Bool Stop) → result ≡ Err stop.WriteFault → EndsRun result status old new flushed faults → Stays faults
  fault_count result is end = let stopped : EndsRun (Err stop.WriteFault) status old new flushed faults = subst
      (λ (r : Result Bool Stop). EndsRun r status old new flushed faults) is end in stopped.count

-- when `saved` is touched, from when the run touches it
pub EndsRun-saves : (form : Option Request) (request : Request) (result : Result Bool Stop) (status : Status) (stays : Type 0) (surface script : Count) (before mid now : ℕ)
    (s : Saving) (old new : Option (List ℕ)) (flushed : Bool)
    → form ≡ Some request → SavesLast (save_name request) result stays surface script (record { before = before; now = mid }) s
    → EndsRun result status old new flushed (record { before = mid; now = now })
    → SavesInTurn form status stays surface script (record { before = before; now = now }) s
EndsRun-saves form request result status stays surface script before mid now s old new flushed named last end =
    let faults : Count = record { before = mid; now = now } in record {
      unasked = λ none. last.unasked (none request named);
      stopped = λ a b d. stopped_early status old new flushed faults result last.stopped end a b d;
      read = last.read;
      failed = λ rose. let k = last.failed rose in fault_count status old new flushed faults result k.0 end ∙ k.1;
      flushed_all = λ other name is asked done. let same : request ≡ other = cc in
          all_done status old new flushed faults result (λ accepted ok. last.flushed_all accepted name ok (ap save_name same ∙ asked)) end done;
    }

-- words that name no file to save save nothing
pub SavesInTurn-unnamed : (form : Option Request) (status : Status) (stays : Type 0) (surface script out : Count) (s : Saving)
    → ((request : Request) → form ≡ Some request → save_name request ≡ None) → stays → Stays s.faults
    → SavesInTurn form status stays surface script out s
SavesInTurn-unnamed form status stays surface script out s none kept count = record {
  unasked = λ _. kept;
  stopped = λ _ _ _. kept;
  read = λ _. kept;
  failed = λ rose. absurd (rose count);
  flushed_all = λ request name is asked done. let wrong : None ≡ Some name = sym (none request is) ∙ asked in absurd (cc);
}

-- nor do words that have no form, and those of a request that names none
pub SavesInTurn-unformed : (form : Option Request) (status : Status) (stays : Type 0) (surface script out : Count) (s : Saving) → form ≡ None → stays → Stays s.faults
    → SavesInTurn form status stays surface script out s
SavesInTurn-unformed form status stays surface script out s none kept count = SavesInTurn-unnamed form status stays surface script out s
    (λ request is. absurd (form-some form request is none)) kept count

pub SavesInTurn-request : (form : Option Request) (request : Request) (status : Status) (stays : Type 0) (surface script out : Count) (s : Saving) → form ≡ Some request
    → save_name request ≡ None → stays → Stays s.faults
    → SavesInTurn form status stays surface script out s
SavesInTurn-request form request status stays surface script out s named none kept count =
    SavesInTurn-unnamed form status stays surface script out s (λ other is. subst (λ (r : Request). save_name r ≡ None) (one_form form request other named is) none) kept count

-- no run ends with the usage text
pub EndsRun-no_usage : (result : Result Bool Stop) (status : Status) (old new : Option (List ℕ)) (flushed : Bool) (faults : Count) → EndsRun result status old new flushed faults → status ≢ Usage
EndsRun-no_usage (Ok true) status old new flushed faults end is = let e = (finished [] (status_of true) status old new flushed faults end (λ w. cc)).0 in cc
EndsRun-no_usage (Ok false) status old new flushed faults end is = let e = (finished [] (status_of false) status old new flushed faults end (λ w. cc)).0 in cc
EndsRun-no_usage (Err stop.Memory) status old new flushed faults end is = let e = end.status_is in cc
EndsRun-no_usage (Err stop.WriteFault) status old new flushed faults end is = let e = end.status_is in cc
EndsRun-no_usage (Err stop.ReadFault) status old new flushed faults end is = let e = (finished read_fault_text ReadFault status old new flushed faults end (λ w. cc)).0 in cc
EndsRun-no_usage (Err (stop.Refused refusal)) status old new flushed faults end is = elim end [
  | inl w ↦ let e = w.status_is in cc
  | inr finish ↦ (refusal_is refusal).2 (sym (finished (refusal_text refusal) (refusal_status refusal) status old new flushed faults finish (λ w. cc)).0 ∙ is)
]

-- no source is touched where the words have not their form
pub ReadsInOrder-unformed : {S R : Type 0} (form : Option Request) (files : List ℕ → Option (List ℕ)) (surfaces : Count) (surface : S) (script : R) → form ≡ None
    → ReadsInOrder form files surfaces surface surface script script
ReadsInOrder-unformed form files surfaces surface script none = record { unformed = λ e. (refl, refl); unnamed = λ request e named. (refl, refl); formed = λ request name e named. absurd (cc) }

-- nor where they name no surface
pub ReadsInOrder-unnamed : {S R : Type 0} (form : Option Request) (request : Request) (files : List ℕ → Option (List ℕ)) (surfaces : Count) (surface : S) (script : R)
    → form ≡ Some request → surface_name request ≡ None
    → ReadsInOrder form files surfaces surface surface script script
ReadsInOrder-unnamed form request files surfaces surface script named none = record {
  unformed = λ e. (refl, refl);
  unnamed = λ other e no_name. (refl, refl);
  formed = λ other name e is. let same : request ≡ other = cc in let wrong : surface_name request ≡ Some name = ap surface_name same ∙ is in absurd (cc);
}

-- the order of a run on a surface, where the words have the form that was found
pub ReadsInOrder-run : {S R : Type 0} (form : Option Request) (request : Request) (name : List ℕ) (files : List ℕ → Option (List ℕ)) (surfaces : Count) (surface surface' : S)
    (script script' : R) → form ≡ Some request
    → surface_name request ≡ Some name → SecondComesLast (second_name request) (files name) surfaces script script' → ReadsInOrder form files surfaces surface surface' script script'
ReadsInOrder-run form request name files surfaces surface surface' script script' named surface_is order = record {
  unformed = λ none. absurd (cc);
  unnamed = λ other e none. let same : request ≡ other = cc in let wrong : surface_name request ≡ None = ap surface_name same ∙ none in absurd (cc);
  formed = λ other read e is. let same : request ≡ other = cc in
      let it : Some name ≡ Some read = sym surface_is ∙ ap surface_name same ∙ is in
      let same_name : name ≡ read = cc in
      subst (λ (n : List ℕ). SecondComesLast (second_name other) (files n) surfaces script script') same_name
      (subst (λ (r : Request). SecondComesLast (second_name r) (files name) surfaces script script') same order);
}

-- no source is read
pub ReadsWithin-unread : (form : Option Request) (surface_unread second_unread : Type 0) (surface second : Reading) → surface_unread → second_unread
    → ReadsWithin form surface_unread second_unread surface second
ReadsWithin-unread form surface_unread second_unread surface second first last = record { surface_within = λ request name named is. inl first; second_within = λ request name named is. inl last }

-- how far the inputs of a run are read, where the words have the form that was found
pub ReadsWithin-run : (form : Option Request) (request : Request) (name : List ℕ) (surface_unread second_unread : Type 0) (surface second : Reading) → form ≡ Some request
    → surface_name request ≡ Some name
    → StopsWithin surface_limit name surface → ((other : List ℕ) → second_name request ≡ Some other → second_unread ⊎ StopsWithin (second_limit request) other second)
    → ReadsWithin form surface_unread second_unread surface second
ReadsWithin-run form request name surface_unread second_unread surface second named surface_is first last = record {
  surface_within = λ other read e is. let same : request ≡ other = cc in
      let it : Some name ≡ Some read = sym surface_is ∙ ap surface_name same ∙ is in
      let same_name : name ≡ read = cc in
      inr (subst (λ (n : List ℕ). StopsWithin surface_limit n surface) same_name first);
  second_within = λ other read e is. let same : request ≡ other = cc in
      subst (λ (r : Request). second_unread ⊎ StopsWithin (second_limit r) read second) same (last read (ap second_name same ∙ is));
}

module _ (demo : Demo) (status : Status) (old new : Option (List ℕ)) (flushed : Bool) (faults : Count) where
  -- a demo ends with one of three statuses
  demo_ended : EndsDemo demo status old new flushed faults → (status ≡ Done) ⊎ ((status ≡ WriteFault) ⊎ (status ≡ Memory))
  demo_ended (inl stop) = inr (inr stop.status_is)
  demo_ended (inr (text, the, inl whole)) = inl whole.status_is
  demo_ended (inr (text, the, inr cut)) = inr (inl cut.status_is)

  demo_is_other : (other : Status) → EndsDemo demo status old new flushed faults → other ≢ Done → other ≢ WriteFault → other ≢ Memory → status ≢ other
  demo_is_other other end a b d is = elim (demo_ended end) [ inl e ↦ a (sym is ∙ e) | inr rest ↦ elim rest [ inl e ↦ b (sym is ∙ e) | inr e ↦ d (sym is ∙ e) ] ]

  pub EndsDemo-flushed : EndsDemo demo status old new flushed faults → status ≢ WriteFault → status ≢ Memory → IsTrue flushed
  EndsDemo-flushed (inl stop) fine kept = absurd (kept stop.status_is)
  EndsDemo-flushed (inr (text, the, finish)) fine kept = (finished text Done status old new flushed faults finish fine).2

  pub EndsDemo-cause : (surface script saved : Count) → Stays surface → Stays script → Stays saved → EndsDemo demo status old new flushed faults → HasStatusCause status surface script faults saved
  EndsDemo-cause surface script saved a b d (inl stop) =
      let is : status ≡ Memory = stop.status_is in
      record { read = λ e. absurd (cc); write = λ e. absurd (cc); other = λ _ _. (a, b, stop.count, d) }
  EndsDemo-cause surface script saved a b d (inr (text, the, finish)) =
      finish_cause surface script saved faults.before faults.before faults.now status old new flushed text Done (λ e. cc) (λ e. cc) (a, b, refl, d) finish

  -- and with neither of these
  pub EndsDemo-no_usage : EndsDemo demo status old new flushed faults → status ≢ Usage
  EndsDemo-no_usage end = demo_is_other Usage end (λ e. cc) (λ e. cc) (λ e. cc)

  pub EndsDemo-no_read_fault : EndsDemo demo status old new flushed faults → status ≢ ReadFault
  EndsDemo-no_read_fault end = demo_is_other ReadFault end (λ e. cc) (λ e. cc) (λ e. cc)

-- the usage text is written, or the sink failed
module _ (bytes : List ℕ) (status : Status) (old new : Option (List ℕ)) (flushed : Bool) (faults : Count) (end : Finishes bytes Usage status old new flushed faults) where
  pub Finishes-usage_status : (status ≡ Usage) ⊎ (status ≡ WriteFault)
  Finishes-usage_status = elim end [ inl w ↦ inl w.status_is | inr cut ↦ inr cut.status_is ]

  pub Finishes-usage_no_read_fault : status ≢ ReadFault
  Finishes-usage_no_read_fault is = elim Finishes-usage_status [ inl e ↦ absurd (cc) | inr e ↦ absurd (cc) ]

  pub Finishes-usage_flushed : status ≢ WriteFault → IsTrue flushed
  Finishes-usage_flushed fine = (finished bytes Usage status old new flushed faults end fine).2

  pub Finishes-usage_cause : (surface script saved : Count) → Stays surface → Stays script → Stays saved → HasStatusCause status surface script faults saved
  Finishes-usage_cause surface script saved a b d =
      finish_cause surface script saved faults.before faults.before faults.now status old new flushed bytes Usage (λ e. cc) (λ e. cc) (a, b, refl, d) end

-- how far the second input is read, by either of its names
pub StopsWithin-second : {U : Type 0} (limit : ℕ) (r : Reading) (name other : List ℕ) → Some name ≡ Some other → U ⊎ StopsWithin limit name r → U ⊎ StopsWithin limit other r
StopsWithin-second {U} limit r name other is h = let same : name ≡ other = cc in subst (λ (n : List ℕ). U ⊎ StopsWithin limit n r) same h
