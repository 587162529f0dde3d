-- Places in a text, at which lines begin.
use Rattle.std.specs.Prelude.{◌≡◌, ◌<◌, ◌≤◌, ◌+◌, ◌⊎◌, ℕ, List, [], ◌∷◌, length, drop, map, All, Result, Ok, Err}
use Rattle.hd_num.specs.Lines.{lines_of, words_of}
use Rattle.hd_num.specs.Span.{IsPart, text_at}
use Rattle.hd_num.specs.declared.span.Span.{Span}
use Rattle.hd_check.specs.declared.lines.CertificateLine.{CertificateLine}
use Rattle.hd_check.specs.declared.lines.LinePlace.{LinePlace}
use Rattle.hd_check.specs.declared.types.CertificateError.{CertificateError}
use Rattle.hd_check.specs.declared.types.CertificateError.TheVariants.{BadLine, Memory}
use Rattle.hd_check.specs.Reading.{Lines, Read}

-- the place lies in the text, and no more lines than bytes stand before it
pub record IsPlace (bytes : List ℕ) (place : LinePlace) : Type 0 where
  pub within : place.from ≤ length bytes
  pub counted : place.number ≤ place.from + 1

-- the lines from a place on
abbrev pub lines_at : List ℕ → LinePlace → Lines
lines_at bytes place = record { number = place.number; lines = map words_of (lines_of (drop place.from bytes)) }

-- the part of the line at a place, and the place after it
pub record IsLineTaken (bytes : List ℕ) (place : LinePlace) (span : Span) (after : LinePlace) : Type 0 where
  pub part : IsPart bytes span
  pub taken : (lines_at bytes place).lines ≡ words_of (text_at bytes span) ∷ (lines_at bytes after).lines
  pub number : after.number ≡ place.number + 1
  pub next : IsPlace bytes after
  pub onward : place.from < after.from

-- the text ends at the place
abbrev pub EndsAt : List ℕ → LinePlace → CertificateError → Type 0
EndsAt bytes place e = (e ≡ BadLine place.number) × ((lines_at bytes place).lines ≡ []) × (place.from ≡ length bytes)

-- the line at a place, or its number where the text ends there
abbrev pub TakesLine : List ℕ → LinePlace → Result (Span × LinePlace) CertificateError → Type 0
TakesLine bytes place (Ok line) = IsLineTaken bytes place line.0 line.1
TakesLine bytes place (Err e) = EndsAt bytes place e

-- the line at a place, and the place after it
pub record IsTaken (bytes : List ℕ) (place : LinePlace) (line : CertificateLine) : Type 0 where
  pub part : IsPart bytes line.span
  pub parts : All (IsPart (text_at bytes line.span)) line.words
  pub taken : (lines_at bytes place).lines ≡ map (text_at (text_at bytes line.span)) line.words ∷ (lines_at bytes line.next).lines
  pub number : line.next.number ≡ place.number + 1
  pub next : IsPlace bytes line.next
  pub onward : place.from < line.next.from

-- the line at a place, or its number where the text ends there, unless it is want of memory
abbrev pub Takes : List ℕ → LinePlace → Result CertificateLine CertificateError → Type 0
Takes bytes place (Ok line) = IsTaken bytes place line
Takes bytes place (Err e) = (e ≡ Memory) ⊎ EndsAt bytes place e

-- what was read and the place after it, or the first line that has not its form, unless it is want of memory
abbrev pub Gives : {A : Type 0} → List ℕ → Result (A × LinePlace) CertificateError → Read A → Type 0
Gives bytes (Ok x) read = (read ≡ Ok (x.0, lines_at bytes x.1)) × IsPlace bytes x.1
Gives bytes (Err e) read = (e ≡ Memory) ⊎ (read ≡ Err e)
