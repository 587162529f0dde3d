-- The file of texts and a map.
use Rattle.hd_map.specs.Map.{Map}
use Rattle.hd_sdf_read.specs.File.{File}
use Rattle.hd_sdf_write.specs.declared.texts.SdfTexts.{SdfTexts}

abbrev pub file_with : SdfTexts → Map → File
file_with texts m = record {
  version = texts.version;
  manufac_id = texts.manufac_id.now;
  create_date = texts.create_date.now;
  mod_date = texts.mod_date.now;
  x_scale = texts.x_scale.now;
  y_scale = texts.y_scale.now;
  z_scale = texts.z_scale.now;
  z_resolution = texts.z_resolution.now;
  extra = texts.extra.now;
  map = m;
  trailer = texts.trailer.now;
}
