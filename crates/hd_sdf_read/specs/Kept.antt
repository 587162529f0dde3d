-- What a file keeps of its header beside the required keys.
use Rattle.std.specs.Prelude.{codes, ◌≡◌, List}
use Rattle.hd_sdf_read.specs.declared.file.Extra.{Extra}
use Rattle.hd_sdf_read.specs.declared.sdf.KeptHeader.{KeptHeader}
use Rattle.hd_sdf_read.specs.declared.sdf.Origin.{Origin}
use Rattle.hd_sdf_read.specs.Entries.{extra_entries, text_of}
use Rattle.hd_sdf_read.specs.Grammar.{resolution_of}

-- the texts of these keys
pub record IsOrigin (origin : Origin) (entries : List Extra) : Type 0 where
  pub manufac_id : origin.manufac_id ≡ text_of (codes "ManufacID") entries
  pub create_date : origin.create_date ≡ text_of (codes "CreateDate") entries
  pub mod_date : origin.mod_date ≡ text_of (codes "ModDate") entries

-- what the entries say beside the required keys
pub record IsKept (kept : KeptHeader) (entries : List Extra) : Type 0 where
  pub origin : IsOrigin kept.origin entries
  pub z_resolution : kept.z_resolution ≡ resolution_of entries
  pub extra : kept.extra ≡ extra_entries entries
