-- What a trailer can still become.
use Rattle.std.specs.Prelude.{◌≡◌, ◌++◌, ℕ, List, Result, Ok, Err}
use Rattle.hd_num.specs.Lines.{trimmed_by}
use Rattle.hd_sdf_read.specs.declared.error.SdfError.{SdfError}
use Rattle.hd_sdf_read.specs.declared.error.SdfError.TheVariants.{Memory}
use Rattle.hd_sdf_read.specs.declared.part_trailer.PartTrailer.{PartTrailer}
use Rattle.hd_sdf_read.specs.Tokens.{is_gap}
use Rattle.hd_sdf_read.specs.Grammar.{trailer_text}

-- the trailer in the text after the end of the data
abbrev pub trailer_in : List ℕ → Result (List ℕ) SdfError
trailer_in text = trailer_text (trimmed_by is_gap text)

-- the same, of what has come of it and more behind
abbrev pub trailer_on : PartTrailer → List ℕ → Result (List ℕ) SdfError
trailer_on part more = trailer_in (part.text ++ more)

-- a piece is read on: what can still become stays, or the trailer is too long however it goes on
abbrev pub FeedsTrailer : PartTrailer → List ℕ → Result PartTrailer SdfError → Type 0
FeedsTrailer old piece (Ok new) = (more : List ℕ) → trailer_on old (piece ++ more) ≡ trailer_on new more
FeedsTrailer old piece (Err e) = (e ≡ Memory → ⊥) → (more : List ℕ) → trailer_on old (piece ++ more) ≡ Err e

-- the text with more bytes, or want of memory
abbrev pub IsExtended : PartTrailer → List ℕ → Result PartTrailer SdfError → Type 0
IsExtended old more (Ok new) = new.text ≡ old.text ++ more
IsExtended old more (Err e) = e ≡ Memory
