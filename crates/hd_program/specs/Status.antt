-- The statuses: their codes, and the causes that they tell.
use Rattle.std.specs.Prelude.{◌≡◌, ◌≢◌, ◌⊎◌, ℕ, Bool, if◌then◌else◌}
use Rattle.hd_run.specs.declared.stop.Refusal.{Refusal}
use Rattle.hd_run.specs.declared.stop.Refusal.TheVariants as refusal
use Rattle.hd_run.specs.FaultCounts.{Count, OneRose, RoseIn, Stays}
use Rattle.hd_program.specs.declared.status.Status.{Status}
use Rattle.hd_program.specs.declared.status.Status.TheVariants.{Done, LineRefused, Usage, SurfaceRefused, CertificateRefused, ReadFault, WriteFault, Memory, TooLong}

abbrev pub code_of : Status → ℕ
code_of Done = 0
code_of LineRefused = 1
code_of Usage = 2
code_of SurfaceRefused = 3
code_of CertificateRefused = 4
code_of ReadFault = 5
code_of WriteFault = 6
code_of Memory = 7
code_of TooLong = 8

-- whether each line was accepted
abbrev pub status_of : Bool → Status
status_of accepted = if accepted then Done else LineRefused

-- the status of a run that is refused an input
abbrev pub refusal_status : Refusal → Status
refusal_status refusal.SurfaceTooLong = SurfaceRefused
refusal_status (refusal.Surface error) = SurfaceRefused
refusal_status refusal.SecondTooLong = TooLong
refusal_status (refusal.Unreadable number) = CertificateRefused
refusal_status (refusal.RuleFails rule at) = CertificateRefused

-- with a read fault exactly one fault is counted, of a source; with a write fault exactly one, of a sink, or one of a
-- source and then one of `out`, to which the text of the read fault could not be written; with each other status none
pub record HasStatusCause (status : Status) (surface script out saved : Count) : Type 0 where
  pub read : status ≡ ReadFault → OneRose surface script × Stays out × Stays saved
  pub write : status ≡ WriteFault
      → (Stays surface × Stays script × OneRose out saved) ⊎ (OneRose surface script × RoseIn out × Stays saved)
  pub other : status ≢ ReadFault → status ≢ WriteFault
      → Stays surface × Stays script × Stays out × Stays saved
