-- The map of a surface.
use Rattle.hd_map.specs.declared.surface.Surface.{Surface}
use Rattle.hd_map.specs.declared.surface.Surface.TheVariants.{Narrow, Wide}
use Rattle.hd_map.specs.Layouts.{narrow_map, wide_map}
use Rattle.hd_map.specs.Map.{Map}

abbrev pub map_of : Surface → Map
map_of (Narrow s) = narrow_map s
map_of (Wide s) = wide_map s
