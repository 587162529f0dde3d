-- What a reader of pieces stands for.
use Rattle.std.specs.Prelude.{◌≡◌, ◌+◌, ◌++◌, ℕ, List, Option, Some, None, Result, Ok, Err}
use Rattle.hd_sdf_read.specs.declared.error.SdfError.{SdfError}
use Rattle.hd_sdf_read.specs.declared.error.SdfError.TheVariants.{Memory}
use Rattle.hd_sdf_read.specs.declared.reader.SdfReader.{SdfReader}
use Rattle.hd_sdf_read.specs.Grammar.{file_in}
use Rattle.hd_sdf_read.specs.States.{continued, refusal_in}

-- a reader stands for these bytes: with whatever follows them, they are the file, or have the first offence, that is
-- read on from what the reader keeps
abbrev pub StandsFor : SdfReader → List ℕ → Type 0
StandsFor reader bytes = (more : List ℕ) → file_in (bytes ++ more) ≡ continued reader.state more

-- how many bytes were fed
abbrev pub fed_of : SdfReader → ℕ
fed_of reader = reader.fed

-- the refusal that a piece was answered with
abbrev pub refusal_of : SdfReader → Option SdfError
refusal_of reader = refusal_in reader.state

-- the refusal of an answer
abbrev pub is_refusal : Result Unit SdfError → Option SdfError
is_refusal (Ok done) = None
is_refusal (Err e) = Some e

-- the reader stands for the bytes and the piece; a refusal but want of memory is that of every text that begins so
pub record TakesPiece (reader : SdfReader) (bytes piece : List ℕ) (result : Result Unit SdfError) : Type 0 where
  pub stands : (result ≡ Err Memory → ⊥) → StandsFor reader (bytes ++ piece)
  pub refused : (e : SdfError) → result ≡ Err e → (e ≡ Memory → ⊥) → (more : List ℕ) → file_in (bytes ++ piece ++ more) ≡ Err e

-- an accepted piece is counted, and a refused one is not
abbrev pub CountsFed : SdfReader → SdfReader → ℕ → Result Unit SdfError → Type 0
CountsFed old new count (Ok done) = fed_of new ≡ fed_of old + count
CountsFed old new count (Err e) = fed_of new ≡ fed_of old
