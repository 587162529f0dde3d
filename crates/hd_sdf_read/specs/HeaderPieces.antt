-- What a header can still become whose front is read.
use Rattle.std.specs.Prelude.{◌≡◌, ◌+◌, ◌-◌, ◌++◌, ℕ, Bool, true, false, List, [], ◌∷◌, Some, None, Result, Ok, Err}
use Rattle.hd_num.specs.Lines.{lines_of}
use Rattle.hd_sdf_read.specs.declared.error.SdfError.{SdfError}
use Rattle.hd_sdf_read.specs.declared.error.SdfError.TheVariants.{Memory}
use Rattle.hd_sdf_read.specs.declared.file.Extra.{Extra}
use Rattle.hd_sdf_read.specs.declared.file.Version.{Version}
use Rattle.hd_sdf_read.specs.declared.header.Header as declared
use Rattle.hd_sdf_read.specs.Entries.{header_from, offence}
use Rattle.hd_sdf_read.specs.File.{File}
use Rattle.hd_sdf_read.specs.Grammar.{after_lines, body_in}
use Rattle.hd_sdf_read.specs.Reads.{◌>>=◌}

-- the file of a header from the line of this number on, after these entries, and of what follows it, or the first
-- offence there
unfoldable pub header_in : Version → ℕ → List Extra → List ℕ → Result File SdfError
header_in version number entries text = do
  header ← header_from number entries (lines_of text)
  body_in version header.entries (after_lines (header.last + 1 - number) text)

-- the same, where a reader stands in the header
abbrev pub header_on : declared.Header → List ℕ → Result File SdfError
header_on h text = header_in h.version h.number h.entries text

-- a line of the header is read: the header goes on behind it or ends with it, or this is the offence of each text
-- with this line
abbrev pub TakesLine : declared.Header → declared.Header → List ℕ → Result Bool SdfError → Type 0
TakesLine old new line (Ok false) = (rest : List ℕ) → header_on old (line ++ 10 ∷ rest) ≡ header_on new rest
TakesLine old new line (Ok true) = (rest : List ℕ) → header_on old (line ++ 10 ∷ rest) ≡ body_in new.version new.entries rest
TakesLine old new line (Err e) = (e ≡ Memory → ⊥) → (rest : List ℕ) → header_on old (line ++ 10 ∷ rest) ≡ Err e

-- one more entry, where it has no offence
pub record HasEntry (old new : declared.Header) (e : Extra) : Type 0 where
  pub none : None ≡ offence old.number old.entries e
  pub version : new.version ≡ old.version
  pub entries : new.entries ≡ old.entries ++ e ∷ []
  pub number : new.number ≡ old.number + 1

abbrev pub TakesEntry : declared.Header → declared.Header → Extra → Result Unit SdfError → Type 0
TakesEntry old new e (Ok done) = HasEntry old new e
TakesEntry old new e (Err refusal) = ((refusal ≡ Memory → ⊥) → Some refusal ≡ offence old.number old.entries e) × (new.number ≡ old.number)
