-- The file that a caller holds.
use Rattle.hd_map.specs.Surface.{map_of}
use Rattle.hd_sdf_read.specs.declared.file.SdfFile.{SdfFile}
use Rattle.hd_sdf_read.specs.File.{File}

-- its texts, and the map of its surface
abbrev pub file_of : SdfFile → File
file_of f = record {
  version = f.version;
  manufac_id = f.manufac_id;
  create_date = f.create_date;
  mod_date = f.mod_date;
  x_scale = f.x_scale;
  y_scale = f.y_scale;
  z_scale = f.z_scale;
  z_resolution = f.z_resolution;
  extra = f.extra;
  map = map_of f.surface;
  trailer = f.trailer;
}
