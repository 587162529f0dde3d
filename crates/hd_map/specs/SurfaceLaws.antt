-- The map of a surface is a map.
use Rattle.hd_map.specs.declared.surface.Surface.{Surface}
use Rattle.hd_map.specs.declared.surface.Surface.TheVariants.{Narrow, Wide}
use Rattle.hd_map.specs.Map.{IsMap}
use Rattle.hd_map.specs.Surface.{map_of}

pub surface-whole : (s : Surface) → IsMap (map_of s)
surface-whole (Narrow s) = s.whole
surface-whole (Wide s) = s.whole
