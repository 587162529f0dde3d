-- Parts of a text, by where they begin and end.
use Rattle.std.specs.Prelude.{◌<◌, ◌≤◌, ℕ, List, length, slice_range}
use Rattle.hd_num.specs.declared.span.Span.{Span}

-- the bytes of a part
abbrev pub text_at : List ℕ → Span → List ℕ
text_at bytes span = slice_range bytes span.start span.end

-- the part lies within the text
pub record IsPart (bytes : List ℕ) (span : Span) : Type 0 where
  pub ordered : span.start ≤ span.end
  pub within : span.end ≤ length bytes

-- the one part ends before the other begins
abbrev pub IsBefore : Span → Span → Type 0
IsBefore first second = first.end < second.start
