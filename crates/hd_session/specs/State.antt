-- The state that a session works on.
use Rattle.std.specs.Prelude.{ℕ, List, [], All}
use Rattle.hd_map.specs.Map.{Map, IsMap}
use Rattle.hd_map.specs.Unmasked.{unmasked}
use Rattle.hd_morph.specs.Element.{ElementTable}
use Rattle.hd_num.specs.declared.decimal.Decimal.{Decimal}
use Rattle.hd_sdf_read.specs.declared.file.Extra.{Extra}
use Rattle.hd_sdf_read.specs.declared.file.Version.{Version}
use Rattle.hd_sdf_read.specs.File.{File}

-- the texts of a file
pub record FileTexts : Type 0 where
  pub version : Version
  pub manufac_id : List ℕ
  pub create_date : List ℕ
  pub mod_date : List ℕ
  pub x_scale : Decimal
  pub y_scale : Decimal
  pub z_scale : Decimal
  pub z_resolution : Decimal
  pub extra : List Extra
  pub trailer : List ℕ

abbrev pub texts_of : File → FileTexts
texts_of file = record {
  version = file.version;
  manufac_id = file.manufac_id;
  create_date = file.create_date;
  mod_date = file.mod_date;
  x_scale = file.x_scale;
  y_scale = file.y_scale;
  z_scale = file.z_scale;
  z_resolution = file.z_resolution;
  extra = file.extra;
  trailer = file.trailer;
}

-- the file with these texts and this map
abbrev pub file_with : FileTexts → Map → File
file_with texts m = record {
  version = texts.version;
  manufac_id = texts.manufac_id;
  create_date = texts.create_date;
  mod_date = texts.mod_date;
  x_scale = texts.x_scale;
  y_scale = texts.y_scale;
  z_scale = texts.z_scale;
  z_resolution = texts.z_resolution;
  extra = texts.extra;
  map = m;
  trailer = texts.trailer;
}

-- the texts of the file that was read, the present map under the setting of the neighbours, the earlier maps under
-- the same, with the newest last, and the elements by first naming
pub record State : Type 0 where
  pub read : FileTexts
  pub map : Map
  pub earlier : List Map
  pub elements : List ElementTable

-- the state at first
abbrev pub first_state : File → State
first_state file = record { read = texts_of file; map = file.map; earlier = []; elements = [] }

-- the file of a state: the texts as they were read, and the present map as a file gives it
abbrev pub saved_file : State → File
saved_file s = file_with s.read (unmasked s.map)

-- the present map and each earlier one is a map
pub record IsState (s : State) : Type 0 where
  pub map : IsMap s.map
  pub earlier : All IsMap s.earlier

-- what a session is seen as: the state, and how many lines were asked
pub record SessionState : Type 0 where
  pub state : State
  pub asked : ℕ
