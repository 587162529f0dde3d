-- The order in which the inputs are read, and how far.
use Rattle.std.specs.Prelude.{◌≡◌, ◌⊎◌, ℕ, List, Option, Some, None, Err, ⊤}
use Rattle.std.specs.Io.KnownBytes.{Keeps}
use Rattle.hd_base.specs.Told.{TakesFew, Told}
use Rattle.hd_run.specs.declared.stop.Refusal.{Refusal}
use Rattle.hd_run.specs.declared.stop.Refusal.TheVariants.{SurfaceTooLong, Surface, SecondTooLong, Unreadable, RuleFails}
use Rattle.hd_run.specs.declared.stop.Stop.{Stop}
use Rattle.hd_run.specs.declared.stop.Stop.TheVariants.{Memory, ReadFault, WriteFault, Refused}
use Rattle.hd_run.specs.FaultCounts.{Count, RoseIn, Stays}
use Rattle.hd_run.specs.Outcome.{surface_of}

-- a refusal of the surface
abbrev pub IsOfSurface : Refusal → Type 0
IsOfSurface SurfaceTooLong = ⊤
IsOfSurface (Surface error) = ⊤
IsOfSurface SecondTooLong = ⊥
IsOfSurface (Unreadable line) = ⊥
IsOfSurface (RuleFails rule at) = ⊥

-- a stop for another cause than a refusal of the surface
abbrev pub IsNotOfSurface : Stop → Type 0
IsNotOfSurface Memory = ⊤
IsNotOfSurface ReadFault = ⊤
IsNotOfSurface WriteFault = ⊤
IsNotOfSurface (Refused refusal) = IsOfSurface refusal → ⊥

-- a source over a call: the files that it tells by their names, what is left of the open one before and now, and its
-- count of faults
pub record Reading : Type 0 where
  pub files : List ℕ → Told
  pub before : Told
  pub left : Told
  pub faults : Count

abbrev pub reading : (List ℕ → Told) → Told → Told → Count → Reading
reading files before left faults = record { files = files; before = before; left = left; faults = faults }

-- of the file of a name, where it is told, at most one byte past the limit is taken; where it could not be opened the
-- source failed, and nothing is taken
abbrev pub StopsWithin : ℕ → List ℕ → Reading → Type 0
StopsWithin limit name r = (bytes : List ℕ) → r.files name ≡ Some bytes
    → TakesFew bytes limit r.left ⊎ (RoseIn r.faults × Keeps r.before r.left)

-- the second input's source stays as it was where no name is given, where the surface's source failed, and where
-- the surface is refused
pub record SecondComesLast {R : Type 0} (name : Option (List ℕ)) (surface : Told) (surfaces : Count)
    (second second' : R) : Type 0 where
  pub unnamed : name ≡ None → second' ≡ second
  pub failed : ¬ Stays surfaces → second' ≡ second
  pub refused : (bytes : List ℕ) (refusal : Refusal) → surface ≡ Some bytes → surface_of bytes ≡ Err refusal
      → second' ≡ second
