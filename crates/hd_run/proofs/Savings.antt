-- What is saved, from its parts.
use Rattle.std.proofs.Common.{◌≡◌, ℕ, Bool, List, [], Option, Some, None, Result, Ok, Err, inl, inr, refl, sym, ap, subst, append-nil}
use Rattle.std.specs.Io.{StartsWith}
use Rattle.std.specs.Io.KnownBytes.{Appends, Keeps}
use Rattle.std.proofs.KnownBytes.{Appends-nil, Appends-trans, Appends-kept}
use Rattle.hd_base.specs.Causes.{Rose}
use Rattle.hd_base.specs.Told.{AppendsPart, AppendsStart, Told, OnTold}
use Rattle.hd_base.proofs.Told.{StartsWith-front}
use Rattle.hd_session.specs.State.{State, saved_file}
use Rattle.hd_sdf_write.specs.Canonical.{canonical}
use Rattle.hd_run.specs.declared.stop.Stop.{Stop}
use Rattle.hd_run.specs.declared.stop.Stop.TheVariants.{Memory, ReadFault, WriteFault, Refused}
use Rattle.hd_run.specs.FaultCounts.{Count, Stays}
use Rattle.hd_run.specs.Outcome.{saved_of}
use Rattle.hd_run.specs.RunResult.{AnswersAndSaves, HasSinkStop}
use Rattle.hd_run.specs.Saving.{Saving, SavesAll, IsSavedAs, Saves, SavesLast, emptied}
use Rattle.hd_run.specs.WrittenAnswers.{WritesAnswers}
use Rattle.hd_run.proofs.Answered.{AnswersFirst-all}

-- after an accepted open no byte is written yet
pub emptied-open : (old new : Told) → OnTold old (new ≡ Some []) → Keeps (emptied old) new
emptied-open None new empty = tt
emptied-open (Some bytes) new empty = rw (empty bytes refl) refl

-- what is appended to no byte
pub emptied-appended : (old mid new : Told) (text : List ℕ) → Keeps (emptied old) mid → Appends mid new text → Appends (emptied old) new text
emptied-appended old mid new text opened written = Appends-trans (emptied old) mid new [] text (Appends-kept (emptied old) (emptied old) mid [] (Appends-nil (emptied old)) opened) written

-- after it not all of a text is written
pub emptied-cut : (old mid new : Told) (text : List ℕ) → Keeps (emptied old) mid → AppendsPart mid new text → AppendsStart (emptied old) new text
emptied-cut old mid new text opened (got, begins, short, more) = (got, begins, emptied-appended old mid new got opened more)

-- or all of it is, and nothing more
pub emptied-all : (old mid new last : Told) (text : List ℕ) → Keeps (emptied old) mid → Appends mid new text → Keeps new last → Appends (emptied old) last text
emptied-all old mid new last text opened written kept = Appends-kept (emptied old) new last text (emptied-appended old mid new text opened written) kept

-- all of a text begins it
pub AppendsStart-whole : (old new : Told) (text : List ℕ) → Appends old new text → AppendsStart old new text
AppendsStart-whole old new text written = (text, subst (λ (whole : List ℕ). StartsWith whole text) (append-nil text) (StartsWith-front text []), written)

-- a count that rose later
pub Rose-later : (before mid now : ℕ) → mid ≡ before → Rose mid now → Rose before now
Rose-later before mid now same rose = subst (λ (n : ℕ). Rose n now) same rose

module _ (save : Option (List ℕ)) (first : State) (lines : List (List ℕ)) (stays : Type 0) (s : Saving) (old new : Told) where
  -- the answering stops, and nothing is saved
  pub AnswersAndSaves-lines_stop : (stop : Stop) (after : State) → stays → WritesAnswers first lines (Err stop) after old new → AnswersAndSaves save first lines stays s (Err stop) old new
  AnswersAndSaves-lines_stop Memory after kept h = h
  AnswersAndSaves-lines_stop WriteFault after kept (text, answers, part) = inl (kept, text, answers, part)
  AnswersAndSaves-lines_stop ReadFault after kept h = absurd h
  AnswersAndSaves-lines_stop (Refused refusal) after kept h = absurd h

  -- all lines are answered, and nothing is to be saved
  pub AnswersAndSaves-lines_kept : (accepted : Bool) (after : State) → save ≡ None → stays → WritesAnswers first lines (Ok accepted) after old new
      → AnswersAndSaves save first lines stays s (Ok accepted) old new
  AnswersAndSaves-lines_kept accepted after none kept (text, are, written) = (text, after, are, written, subst (λ (o : Option (List ℕ)). IsSavedAs stays s (saved_of o after)) (sym none) kept)

  module _ (accepted : Bool) (after : State) (name : List ℕ) (named : save ≡ Some name) where
    text_saved : saved_of save after ≡ Some (canonical (saved_file after))
    text_saved = ap (λ (o : Option (List ℕ)). saved_of o after) named

    -- all lines are answered, and their file is saved
    pub AnswersAndSaves-lines_saved : WritesAnswers first lines (Ok accepted) after old new → SavesAll (canonical (saved_file after)) s → AnswersAndSaves save first lines stays s (Ok accepted) old new
    AnswersAndSaves-lines_saved (text, are, written) all = (text, after, are, written, subst (IsSavedAs stays s) (sym text_saved) all)

    -- all lines are answered, and the saving of their file stops
    pub AnswersAndSaves-saving_stops : (T : Type 0) (stop : Stop) → WritesAnswers first lines (Ok accepted) after old new
        → Saves {T = T} (canonical (saved_file after)) stays (Err stop) s → AnswersAndSaves save first lines stays s (Err stop) old new
    AnswersAndSaves-saving_stops T Memory (text, are, written) h = (text, AnswersFirst-all first lines accepted text after are, written)
    AnswersAndSaves-saving_stops T WriteFault (text, are, written) some = inr (accepted, text, after, are, written, canonical (saved_file after), text_saved, some)
    AnswersAndSaves-saving_stops T ReadFault w h = absurd h
    AnswersAndSaves-saving_stops T (Refused refusal) w h = absurd h

module _ (save : Option (List ℕ)) (result : Result Bool Stop) (stays : Type 0) (surface script out : Count) (s : Saving) where
  -- `saved` is not touched
  last_untouched : stays → Stays s.faults → ((accepted : Bool) (name : List ℕ) → result ≡ Ok accepted → save ≡ Some name → ⊥) → SavesLast save result stays surface script out s
  last_untouched kept count unsaved = record {
    unasked = λ none. kept;
    stopped = λ stop is other. kept;
    read = λ rose. kept;
    failed = λ rose. absurd (rose count);
    flushed_all = λ accepted name is asked. absurd (unsaved accepted name is asked);
  }

  -- it is not touched, since nothing is to be saved
  pub SavesLast-unasked : save ≡ None → stays → Stays s.faults → SavesLast save result stays surface script out s
  SavesLast-unasked none kept count = last_untouched kept count (λ accepted name done asked. cc)

  -- or since something stops before
  pub SavesLast-unreached : (stop : Stop) → result ≡ Err stop → stays → Stays s.faults → SavesLast save result stays surface script out s
  SavesLast-unreached stop is kept count = last_untouched kept count (λ accepted name done asked. cc)

  -- the file is saved
  pub SavesLast-saved : (accepted : Bool) (name text : List ℕ) → save ≡ Some name → result ≡ Ok accepted → Stays surface → Stays script → SavesAll text s
      → SavesLast save result stays surface script out s
  SavesLast-saved accepted name text named is a b all = record {
    unasked = λ none. absurd (cc);
    stopped = λ stop other not_write. absurd (cc);
    read = λ rose. absurd (rose (a, b));
    failed = λ rose. absurd (rose all.count);
    flushed_all = λ _ _ _ _. all.flushed_all;
  }

  -- the saving of the file stops
  pub SavesLast-stopped : (T : Type 0) (stop : Stop) (name text : List ℕ) → save ≡ Some name → result ≡ Err stop → Stays surface → Stays script → Stays out → Saves {T = T} text stays (Err stop) s
      → SavesLast save result stays surface script out s
  SavesLast-stopped T Memory name text named is a b c (kept, count) = last_untouched kept count (λ accepted other ok asked. cc)
  SavesLast-stopped T WriteFault name text named is a b c some = record {
    unasked = λ none. absurd (cc);
    stopped = λ stop other not_write. absurd (not_write cc);
    read = λ rose. absurd (rose (a, b));
    failed = λ rose. (is, c);
    flushed_all = λ accepted other ok asked. absurd (cc);
  }
  SavesLast-stopped T ReadFault name text named is a b c h = absurd h
  SavesLast-stopped T (Refused refusal) name text named is a b c h = absurd h

module _ (out : Count) (s : Saving) where
  -- the saving stops
  pub Saves-cause : (T : Type 0) (stop : Stop) (text : List ℕ) (stays : Type 0) → Stays out → Saves {T = T} text stays (Err stop) s → HasSinkStop {T = Bool} out s.faults (Err stop)
  Saves-cause T Memory text stays kept h = record { write = λ e. absurd (cc); other = λ e. (kept, h.1); only = λ stop e. inr (cc) }
  Saves-cause T WriteFault text stays kept some = record { write = λ e. inr (kept, some.count); other = λ e. absurd (e refl); only = λ stop e. inl (cc) }
  Saves-cause T ReadFault text stays kept h = absurd h
  Saves-cause T (Refused refusal) text stays kept h = absurd h
