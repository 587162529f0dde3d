-- The lines of a text and the words of a line.
use Rattle.std.specs.Prelude.{◌≡◌, ◌<◌, ◌≤◌, ◌+◌, ◌-◌, ◌==◌, ◌||◌, ℕ, Bool, not, List, [], ◌∷◌, length, drop, take, filter, slice_range, if◌then◌else◌}
use Rattle.std.specs.List.{after_first, before_first, position_or_len, slice_split, suffix_len, prefix_len}
use Rattle.hd_num.specs.declared.span.Span.{Span}
use Rattle.hd_num.specs.Span.{text_at}

-- a line feed
abbrev pub is_line_feed : ℕ → Bool
is_line_feed byte = byte == 10

-- a space, a tab or a carriage return
abbrev pub is_blank : ℕ → Bool
is_blank byte = byte == 32 || byte == 9 || byte == 13

-- some bytes
abbrev pub is_filled : List ℕ → Bool
is_filled piece = not (length piece == 0)

-- the pieces without an empty last one
abbrev pub without_empty_last : List (List ℕ) → List (List ℕ)
without_empty_last [] = []
without_empty_last (piece ∷ []) = if is_filled piece then piece ∷ [] else []
without_empty_last (piece ∷ next ∷ more) = piece ∷ without_empty_last (next ∷ more)

-- the lines of a text: each ends before a line feed, and a last one may end with the text if it is not empty
abbrev pub lines_of : List ℕ → List (List ℕ)
lines_of bytes = without_empty_last (slice_split is_line_feed bytes)

-- the words of a line: its longest runs of bytes that are not blanks
abbrev pub words_of : List ℕ → List (List ℕ)
words_of line = filter is_filled (slice_split is_blank line)

-- the text after its first line
abbrev pub after_line : List ℕ → List ℕ
after_line text = after_first is_line_feed text

-- the text without the bytes at its front that pass the test
abbrev pub without_start : (ℕ → Bool) → List ℕ → List ℕ
without_start test text = drop (prefix_len test text) text

-- the text without the bytes at its end that pass the test
abbrev pub without_end : (ℕ → Bool) → List ℕ → List ℕ
without_end test text = take (length text - suffix_len test text) text

-- the text without the bytes at both ends that pass the test
abbrev pub trimmed_by : (ℕ → Bool) → List ℕ → List ℕ
trimmed_by test text = without_end test (without_start test text)

-- the text without the blanks at both ends
abbrev pub trimmed : List ℕ → List ℕ
trimmed text = trimmed_by is_blank text

-- the line at a place of the text is this part, and the other lines begin at next
pub record IsLineAt (bytes : List ℕ) (from : ℕ) (span : Span) (next : ℕ) : Type 0 where
  pub start : span.start ≡ from
  pub ordered : from ≤ span.end
  pub before : span.end ≤ next
  pub within : next ≤ length bytes
  pub onward : from < next
  pub text : text_at bytes span ≡ before_first is_line_feed (drop from bytes)
  pub rest : drop next bytes ≡ after_line (drop from bytes)
  pub lines : lines_of (drop from bytes) ≡ text_at bytes span ∷ lines_of (drop next bytes)

-- the piece at a place, between bytes that pass the test, ends there: at the next such byte, or at the end
pub record IsPieceEnd (test : ℕ → Bool) (bytes : List ℕ) (from end : ℕ) : Type 0 where
  pub place : end ≡ from + position_or_len test (drop from bytes)
  pub low : from ≤ end
  pub high : end ≤ length bytes
  pub last : end ≡ length bytes → slice_split test (drop from bytes) ≡ slice_range bytes from end ∷ []
  pub more : end < length bytes → slice_split test (drop from bytes) ≡ slice_range bytes from end ∷ slice_split test (drop (end + 1) bytes)
