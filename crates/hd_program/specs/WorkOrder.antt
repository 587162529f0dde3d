-- The order of work over the sources and sinks.
use Rattle.std.specs.Prelude.{◌≡◌, ◌≢◌, ◌⊎◌, ℕ, List, Option, Some, None, IsTrue}
use Rattle.hd_base.specs.Told.{Told}
use Rattle.hd_words.specs.Requests.{Request, Run, Check, Demonstrate, save_name, second_name, surface_name}
use Rattle.hd_run.specs.FaultCounts.{Count, Stays}
use Rattle.hd_run.specs.Limits.{certificate_limit, script_limit, surface_limit}
use Rattle.hd_run.specs.ReadOrder.{Reading, SecondComesLast, StopsWithin}
use Rattle.hd_run.specs.Saving.{Saving}
use Rattle.hd_program.specs.declared.status.Status.{Status}
use Rattle.hd_program.specs.declared.status.Status.TheVariants.{Done, LineRefused, WriteFault}

-- no source is touched where the words have not their form or name no surface, and the second input's only once the
-- surface is accepted
pub record ReadsInOrder {S R : Type 0} (form : Option Request) (files : List ℕ → Told) (surfaces : Count)
    (surface surface' : S) (second second' : R) : Type 0 where
  pub unformed : form ≡ None → (surface' ≡ surface) × (second' ≡ second)
  pub unnamed : (request : Request) → form ≡ Some request → surface_name request ≡ None
      → (surface' ≡ surface) × (second' ≡ second)
  pub formed : (request : Request) (name : List ℕ) → form ≡ Some request → surface_name request ≡ Some name
      → SecondComesLast (second_name request) (files name) surfaces second second'

-- the most bytes of the second input
abbrev pub second_limit : Request → ℕ
second_limit (Run run) = script_limit
second_limit (Check check) = certificate_limit
second_limit (Demonstrate demo) = 0

-- no input is read further than to one byte past its limit; `unread` says that a source is as it was
pub record ReadsWithin (form : Option Request) (surface_unread second_unread : Type 0) (surface second : Reading) : Type 0 where
  pub surface_within : (request : Request) (name : List ℕ) → form ≡ Some request → surface_name request ≡ Some name
      → surface_unread ⊎ StopsWithin surface_limit name surface
  pub second_within : (request : Request) (name : List ℕ) → form ≡ Some request → second_name request ≡ Some name
      → second_unread ⊎ StopsWithin (second_limit request) name second

-- `saved` is touched only where the words name a file to save, and only once both inputs are read and all lines
-- answered: it is then flushed, or a sink failed. Where `saved` fails, nothing more is written
pub record SavesInTurn (form : Option Request) (status : Status) (stays : Type 0)
    (surface script out : Count) (s : Saving) : Type 0 where
  pub unasked : ((request : Request) → form ≡ Some request → save_name request ≡ None) → stays
  pub stopped : status ≢ Done → status ≢ LineRefused → status ≢ WriteFault → stays
  pub read : ¬ (Stays surface × Stays script) → stays
  pub failed : ¬ Stays s.faults → Stays out
  pub flushed_all : (request : Request) (name : List ℕ) → form ≡ Some request → save_name request ≡ Some name
      → (status ≡ Done) ⊎ (status ≡ LineRefused) → IsTrue s.flushed
