-- The rank at a position, where a point is present.
use Rattle.std.specs.Prelude.{ℕ, ℤ, Option, Some, None}
use Rattle.hd_map.specs.declared.types.Pos.{Pos}
use Rattle.hd_map.specs.declared.types.Rank.{Rank}
use Rattle.hd_map.specs.Map.{Map, height_at, place_of}

-- the rank of a height at an index, and this one where there is no height
abbrev pub rank_shown : Rank → ℕ → Option ℤ → Rank
rank_shown none index None = none
rank_shown none index (Some height) = record { height = height; index = index }

-- the rank of the point at a position, and this one where no point is present
abbrev pub rank_or : Rank → Map → Pos → Rank
rank_or none m p = rank_shown none (place_of m.size p) (height_at m p)
