-- Reading from the front, with the first offence that is met.
use Rattle.std.specs.Prelude.{◌≡◌, Result, Ok, Err}
use Rattle.hd_sdf_read.specs.declared.error.SdfError.{SdfError}
use Rattle.hd_sdf_read.specs.declared.error.SdfError.TheVariants.{Memory}

infixl 10 ◌>>=◌
abbrev pub ◌>>=◌ : {A B : Type 0} → Result A SdfError → (A → Result B SdfError) → Result B SdfError
(Ok x) >>= f = f x
(Err e) >>= f = Err e

-- the answer, seen by view, is what reading gives, unless it is want of memory
abbrev pub Gives : {X Y : Type 0} → (X → Y) → Result X SdfError → Result Y SdfError → Type 0
Gives view (Ok x) read = read ≡ Ok (view x)
Gives view (Err e) read = (e ≡ Memory → ⊥) → read ≡ Err e
