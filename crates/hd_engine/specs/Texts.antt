-- The texts that a session keeps.
use Rattle.hd_engine.specs.declared.texts.Texts.{Texts}
use Rattle.hd_session.specs.State.{FileTexts}

abbrev pub texts_view : Texts → FileTexts
texts_view t = record {
  version = t.version;
  manufac_id = t.manufac_id;
  create_date = t.create_date;
  mod_date = t.mod_date;
  x_scale = t.x_scale;
  y_scale = t.y_scale;
  z_scale = t.z_scale;
  z_resolution = t.z_resolution;
  extra = t.extra;
  trailer = t.trailer;
}
