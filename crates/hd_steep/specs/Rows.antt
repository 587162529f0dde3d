-- Rows that hold for a profile the rank at each place.
use Rattle.std.specs.Prelude.{◌≡◌, ◌<◌, ◌+◌, ℕ, pos, List, length, slice_index_or}
use Rattle.hd_map.specs.declared.types.Rank.{Rank}
use Rattle.hd_map.specs.declared.types.SideName.{SideName}
use Rattle.hd_map.specs.Map.{Map}
use Rattle.hd_steep.specs.Lowest.{missing, IsLow, IsAtPlace}

-- what is read past the end of a row
abbrev pub past_end : Rank
past_end = record { height = pos 0; index = 0 }

-- the rank at a place of a row
abbrev pub rank_in : List Rank → ℕ → Rank
rank_in row k = slice_index_or row k past_end

-- a row for this many points, with an empty place on each side
pub record IsFramed (side : SideName) (points : ℕ) (ranks : List Rank) : Type 0 where
  pub whole : length ranks ≡ points + 2
  pub left : rank_in ranks 0 ≡ missing side
  pub right : rank_in ranks (points + 1) ≡ missing side

-- the row of a profile: at each place the rank of the point there
pub record IsRowOf (m : Map) (side : SideName) (y : ℕ) (row : List Rank) : Type 0 where
  pub framed : IsFramed side m.size.points row
  pub each : (k : ℕ) → k < m.size.points → IsLow m side (IsAtPlace y (k + 1)) (rank_in row (k + 1))
