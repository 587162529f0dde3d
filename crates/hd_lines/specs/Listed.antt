-- Borders as lines between kept pits.
use Rattle.std.specs.Prelude.{◌≡◌, ◌<◌, ℕ, Bool, List, length, slice_get, Some}
use Rattle.hd_prune.specs.declared.step.Kept.{Kept}
use Rattle.hd_steep.specs.declared.border.Border.{Border}
use Rattle.hd_lines.specs.declared.line.BorderLine.{BorderLine}

-- the line of a border between these two kept pits
abbrev pub line_of : Border → Kept → Kept → Bool → BorderLine
line_of l a b first = record { a = a.pit; b = b.pit; pairs = l.pairs; pass = l.pass; on_saddle = first }

-- the lines of the first n borders
pub record AreListed (kept : List Kept) (borders : List Border) (firsts : List Bool) (n : ℕ) (lines : List BorderLine) : Type 0 where
  pub whole : length lines ≡ n
  pub each : (k : ℕ) (l : Border) (a b : Kept) (first : Bool) → k < n → slice_get borders k ≡ Some l → slice_get kept l.a ≡ Some a → slice_get kept l.b ≡ Some b
      → slice_get firsts k ≡ Some first → slice_get lines k ≡ Some (line_of l a b first)
