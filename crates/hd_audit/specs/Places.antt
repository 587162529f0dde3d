-- The number of the line of each point, by index.
use Rattle.std.specs.Prelude.{◌≡◌, ◌<◌, ℕ, zero, suc, List, length, slice_index_or, Option, Some, None}
use Rattle.hd_map.specs.Map.{Map, cell_count}
use Rattle.hd_audit.specs.declared.types.AuditLine.{AuditLine}
use Rattle.hd_audit.specs.Lines.{line_at}

-- the number of the line of the point of an index, none where none is noted
abbrev pub place_at : List (Option ℕ) → ℕ → Option ℕ
place_at places i = slice_index_or places i None

-- the place that a number stands for: none for 0, else one less
abbrev pub place_of_number : ℕ → Option ℕ
place_of_number zero = None
place_of_number (suc n) = Some n

-- of the first n lines each is noted at its index, and no others are
pub record ArePlaces (lines : List AuditLine) (n : ℕ) (places : List (Option ℕ)) : Type 0 where
  pub each : (k : ℕ) → k < n → place_at places (line_at lines k).index ≡ Some k
  pub only : (i k : ℕ) → place_at places i ≡ Some k → (k < n) × ((line_at lines k).index ≡ i)

-- all lines are noted
pub record AreAllPlaces (m : Map) (lines : List AuditLine) (places : List (Option ℕ)) : Type 0 where
  pub whole : length places ≡ cell_count m.size
  pub noted : ArePlaces lines (length lines) places
