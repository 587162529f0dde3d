-- What the code holds as what it stands for, without where it lies in memory.
use Rattle.std.specs.Prelude.{ℕ, List}
use Rattle.hd_map.specs.declared.surface.Surface.{Surface}
use Rattle.hd_map.specs.Surface.{map_of}
use Rattle.hd_sdf_read.specs.declared.entries.HeaderEntry.{HeaderEntry}
use Rattle.hd_sdf_read.specs.declared.entries.HeaderLine.{HeaderLine}
use Rattle.hd_sdf_read.specs.declared.entries.HeaderLine.TheVariants as lines
use Rattle.hd_sdf_read.specs.declared.file.Extra.{Extra}
use Rattle.hd_sdf_read.specs.declared.required_keys.RequiredKeys as declared
use Rattle.hd_sdf_read.specs.Entries.{Kind, Skipped, Ends, Keyed, Unread, entry}
use Rattle.hd_sdf_read.specs.RequiredKeys.{RequiredKeys}
use Rattle.hd_sdf_read.specs.Bodies.{Surveyed}

-- the texts of an entry
abbrev pub extra_of : HeaderEntry → Extra
extra_of e = entry e.key.now e.value.now

-- the kind of a line
abbrev pub kind_view : HeaderLine → Kind
kind_view lines.Skipped = Skipped
kind_view lines.Ends = Ends
kind_view (lines.Keyed e) = Keyed (extra_of e)
kind_view lines.Unread = Unread

-- the required keys without where their literals lie in memory
abbrev pub required_keys_view : declared.RequiredKeys → RequiredKeys
required_keys_view f = record {
  size = f.size;
  data_type = f.data_type;
  x_scale = f.x_scale;
  y_scale = f.y_scale;
  z_scale = f.z_scale;
}

-- the surface and the trailer that a caller holds
abbrev pub surveyed_view : Surface × List ℕ → Surveyed
surveyed_view parts = record { map = map_of parts.0; trailer = parts.1 }
