-- How many points of a map are present, and the range of their heights.
use Rattle.std.specs.Prelude.{◌≡◌, ◌+◌, ℕ, ℤ, List, length, map, Option, Some, None}
use Rattle.std.specs.List.{filter_map, range_with_len}
use Rattle.hd_map.specs.declared.presence.Presence.{Presence}
use Rattle.hd_map.specs.HeightRange.{range_of, widened}
use Rattle.hd_map.specs.Map.{Map, cell_count, height_at, position_at}

-- the heights of the present points among those with an index below n, by index
abbrev pub heights_below : Map → ℕ → List ℤ
heights_below m n = filter_map (height_at m) (map (position_at m.size) (range_with_len 0 n))

-- the heights of the present points, by index
abbrev pub present_heights : Map → List ℤ
present_heights m = heights_below m (cell_count m.size)

-- how many heights there are, and their range
pub record IsPresence (heights : List ℤ) (presence : Presence) : Type 0 where
  pub count : presence.count ≡ length heights
  pub range : presence.range ≡ range_of heights

-- a point is counted where it has a height
abbrev pub presence_with : Presence → Option ℤ → Presence
presence_with presence None = presence
presence_with presence (Some height) = record { count = presence.count + 1; range = Some (widened presence.range height) }
