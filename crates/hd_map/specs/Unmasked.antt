-- Maps without masks: a map as a file gives it, and one on which nothing is measured yet.
use Rattle.std.specs.Prelude.{false, replicate}
use Rattle.hd_map.specs.declared.types.Adjacency.TheVariants.{Eight}
use Rattle.hd_map.specs.declared.types.Size.{Size}
use Rattle.hd_map.specs.declared.types.Cell.TheVariants.{Bad}
use Rattle.hd_map.specs.declared.types.DataType.{DataType}
use Rattle.hd_map.specs.Map.{Map, cell_count}

-- the map as a file gives it: without its masks, and with eight neighbours
abbrev pub unmasked : Map → Map
unmasked m = record m { masks = replicate (cell_count m.size) false; adjacency = Eight }

-- a map of this size and data type on which no point is measured and none is masked, with eight neighbours
abbrev pub unmeasured_map : Size → DataType → Map
unmeasured_map size data_type = record { size = size; data_type = data_type; cells = replicate (cell_count size) Bad; masks = replicate (cell_count size) false; adjacency = Eight }
