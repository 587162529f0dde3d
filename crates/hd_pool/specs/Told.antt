-- What extents tell of regions.
use Rattle.std.specs.Prelude.{◌+◌, ℤ, List, Option, Some, None, fold, min}
use Rattle.std.specs.Int.{int_max, int_min}
use Rattle.hd_basin.specs.declared.extent.Extent.{Extent}
use Rattle.hd_map.specs.declared.height_range.HeightRange.{HeightRange}
use Rattle.hd_map.specs.declared.presence.Presence.{Presence}
use Rattle.hd_map.specs.declared.types.RegionSize.{RegionSize}
use Rattle.hd_regions.specs.declared.tally.Tally.{Tally}

-- the region with the number of its points
abbrev pub size_told : Extent → RegionSize
size_told e = record { pit = e.pit; points = e.points }

-- the range from a least to a greatest height, where there are both
abbrev pub range_between : Option ℤ → Option ℤ → Option HeightRange
range_between (Some a) (Some b) = Some (record { least = a; greatest = b })
range_between (Some a) None = None
range_between None b = None

-- the number of its points, and the range of the heights of its edge points
abbrev pub tally_told : Extent → Tally
tally_told e = record { points = e.points; edge = range_between e.edge_low e.edge_high }

-- a range with that of the heights of one more region
abbrev pub range_with : Option HeightRange → Extent → HeightRange
range_with None e = record { least = e.least; greatest = e.high }
range_with (Some g) e = record { least = int_min g.least e.least; greatest = int_max g.greatest e.high }

-- no point is seen
abbrev pub seen_none : Presence
seen_none = record { count = 0; range = None }

-- the points that are seen, with those of one more region: at most as many as a u32 holds
abbrev pub presence_with : Presence → Extent → Presence
presence_with p e = record { count = min (p.count + e.points) 4294967295; range = Some (range_with p.range e) }

-- how many points lie in all regions, and the range of their heights
abbrev pub presence_told : List Extent → Presence
presence_told es = fold presence_with seen_none es
