-- What a source or a sink keeps of its faults.
use Rattle.std.specs.Prelude.{ℕ, Option, Some, None}
use Rattle.std.specs.declared.io.Error.{Error}
use Rattle.hd_base.specs.Causes.{one_more}

-- how many there were, and the error of the last one
pub record FaultState : Type 0 where
  pub count : ℕ
  pub last : Option Error

-- before the first one
abbrev pub no_fault : FaultState
no_fault = record { count = 0; last = None }

-- after one more, of this error
abbrev pub faulted : FaultState → Error → FaultState
faulted faults error = record { count = one_more faults.count; last = Some error }
