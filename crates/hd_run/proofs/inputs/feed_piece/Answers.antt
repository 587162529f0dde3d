use Rattle.std.proofs.Common.{◌≡◌, Result, Ok, Err}
use Rattle.hd_sdf_read.specs.declared.error.SdfError.{SdfError}
use Rattle.hd_sdf_read.specs.declared.error.SdfError.TheVariants.{Memory}
use Rattle.hd_run.proofs.inputs.feed_piece.Goals as goal

ok≢memory : (u : Unit {0}) → Ok u ≡ Err Memory → ⊥
ok≢memory u e = cc

abbrev Same : Result (Unit {0}) SdfError → Result (Unit {0}) SdfError → Type 0
Same a b = a ≡ b

its_memory : (refusal : SdfError) → Same (Err refusal) (Err Memory) → refusal ≡ Memory
its_memory refusal e = cc

pub returns-in-Ok-clause-stands : goal.returns-in-Ok-clause-stands
returns-in-Ok-clause-stands c = λ bytes stands. (c.in-Ok.ensures.text bytes stands).stands (ok≢memory c.in-Ok.field-0)

pub returns-in_default-clause-stands : goal.returns-in_default-clause-stands
returns-in_default-clause-stands c = λ bytes stands. (c.in-Err.ensures.text bytes stands).stands (λ e. c.in_default.not-Memory (its_memory c.in-Err.refusal e))
