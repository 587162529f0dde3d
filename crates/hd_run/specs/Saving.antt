-- What `saved` gets, and when it is touched.
use Rattle.std.specs.Prelude.{◌≡◌, ◌≢◌, ◌⊎◌, ℕ, Bool, List, [], Option, Some, None, Result, Ok, Err, IsTrue}
use Rattle.std.specs.Option.{option_map}
use Rattle.std.specs.Io.KnownBytes.{Appends, Keeps}
use Rattle.hd_base.specs.Told.{Told, AppendsStart}
use Rattle.hd_run.specs.declared.stop.Stop.{Stop}
use Rattle.hd_run.specs.declared.stop.Stop.TheVariants.{Memory, ReadFault, WriteFault, Refused}
use Rattle.hd_run.specs.FaultCounts.{Count, RoseIn, Stays}

-- `saved` over a run: the bytes that it tells before and now, whether all are flushed, and its count of faults
pub record Saving : Type 0 where
  pub before : Told
  pub now : Told
  pub flushed : Bool
  pub faults : Count

abbrev pub saving : Told → Told → Bool → Count → Saving
saving before now flushed faults =
    record { before = before; now = now; flushed = flushed; faults = faults }

-- no byte yet, as after an open
abbrev pub emptied : Told → Told
emptied told = option_map (λ bytes. []) told

-- it was opened, and then this text was written and flushed, and nothing else
pub record SavesAll (text : List ℕ) (s : Saving) : Type 0 where
  pub written : Appends (emptied s.before) s.now text
  pub flushed_all : IsTrue s.flushed
  pub count : Stays s.faults

-- it failed: it could not be opened, or since it was opened it got some first bytes of this text, and nothing else
pub record SavesSome (text : List ℕ) (s : Saving) : Type 0 where
  pub written : Keeps s.before s.now ⊎ AppendsStart (emptied s.before) s.now text
  pub count : RoseIn s.faults

-- what becomes of it where this text, or nothing, is to be saved
abbrev pub IsSavedAs : Type 0 → Saving → Option (List ℕ) → Type 0
IsSavedAs stays s None = stays
IsSavedAs stays s (Some text) = SavesAll text s

-- how the saving of a text ends; after want of memory nothing of it was begun
abbrev pub Saves : {T : Type 0} → List ℕ → Type 0 → Result T Stop → Saving → Type 0
Saves text stays (Ok done) s = SavesAll text s
Saves text stays (Err Memory) s = stays × Stays s.faults
Saves text stays (Err WriteFault) s = SavesSome text s
Saves text stays (Err ReadFault) s = ⊥
Saves text stays (Err (Refused refusal)) s = ⊥

-- a run touches `saved` only where a file is to be saved, and only once both inputs are read and all lines answered:
-- it is then flushed, or a sink failed. Where `saved` fails, nothing more is written
pub record SavesLast (save : Option (List ℕ)) (result : Result Bool Stop) (stays : Type 0)
    (surface script out : Count) (s : Saving) : Type 0 where
  pub unasked : save ≡ None → stays
  pub stopped : (stop : Stop) → result ≡ Err stop → stop ≢ WriteFault → stays
  pub read : ¬ (Stays surface × Stays script) → stays
  pub failed : ¬ Stays s.faults → (result ≡ Err WriteFault) × Stays out
  pub flushed_all : (accepted : Bool) (name : List ℕ) → result ≡ Ok accepted → save ≡ Some name → IsTrue s.flushed
