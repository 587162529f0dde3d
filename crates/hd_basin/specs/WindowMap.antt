-- The maps that a window and its heights alone are seen as.
use Rattle.hd_map.specs.Map.{Map}
use Rattle.hd_basin.specs.declared.inset.Inset.{Inset}
use Rattle.hd_basin.specs.declared.window.Window.{Window}
use Rattle.hd_basin.specs.Frames.{framed_map, whole_frame}

abbrev pub map_of_window : Window → Map
map_of_window w = framed_map w.size w.adjacency w.frame w.heights.items

abbrev pub map_of_inset : Inset → Map
map_of_inset i = framed_map i.size i.adjacency (whole_frame i.size) i.heights.now
