-- A map under another setting is a map.
use Rattle.hd_map.specs.declared.types.Adjacency.{Adjacency}
use Rattle.hd_map.specs.Map.{Map, IsMap}
use Rattle.hd_map.specs.Sets.{under}

pub under-whole : (adjacency : Adjacency) (m : Map) → IsMap m → IsMap (under adjacency m)
under-whole adjacency m whole = record { size = whole.size; places = whole.places; cells = whole.cells; masks = whole.masks; heights = whole.heights }
