-- The maps of the two layouts of a surface.
use Rattle.hd_map.specs.declared.narrow.Narrow.{Narrow}
use Rattle.hd_map.specs.declared.wide.Wide.{Wide}
use Rattle.hd_map.specs.Map.{Map}
use Rattle.hd_map.specs.Packing.{over_least, as_it_is, kept_map}

abbrev pub narrow_map : Narrow → Map
narrow_map s = kept_map (over_least s.data_type) s.size s.data_type s.heights.items s.marks.items s.adjacency

abbrev pub wide_map : Wide → Map
wide_map s = kept_map as_it_is s.size s.data_type s.heights.items s.marks.items s.adjacency
