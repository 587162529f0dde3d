-- What the required keys of a header say.
use Rattle.std.specs.Prelude.{◌≡◌, Some, ℕ, nat_le, List, Option, None, Result, Ok, Err, option_and_then, if◌then◌else◌, codes}
use Rattle.hd_num.specs.declared.decimal.Decimal.{Decimal}
use Rattle.hd_num.specs.Decimal.{decimal_of}
use Rattle.hd_sdf_read.specs.declared.error.SdfError.{SdfError}
use Rattle.hd_sdf_read.specs.declared.error.SdfError.TheVariants.{MissingKey, TooLarge}
use Rattle.hd_sdf_read.specs.declared.file.Extra.{Extra}
use Rattle.hd_sdf_read.specs.Entries.{value_of}
use Rattle.hd_sdf_read.specs.Keys.{extent_of, type_of}
use Rattle.hd_sdf_read.specs.Reads.{◌>>=◌}
use Rattle.hd_map.specs.Map.{cell_count}
use Rattle.hd_map.specs.declared.types.DataType.{DataType}
use Rattle.hd_map.specs.declared.types.Size.{Size}

-- what the key of this number says, or that it is missing
abbrev pub required : {X : Type 0} → ℕ → Option X → Result X SdfError
required number (Some x) = Ok x
required number None = Err (MissingKey number)

-- what the required keys say
pub record RequiredKeys : Type 0 where
  pub size : Size
  pub data_type : DataType
  pub x_scale : Decimal
  pub y_scale : Decimal
  pub z_scale : Decimal

-- at most 4,194,304 points
abbrev pub limited : RequiredKeys → Result RequiredKeys SdfError
limited keys = if nat_le (cell_count keys.size) 4194304 then Ok keys else Err TooLarge

-- the decimal of a key
abbrev pub decimal_at : List ℕ → List Extra → Option Decimal
decimal_at key entries = option_and_then decimal_of (value_of key entries)

-- what the required keys of a header say
unfoldable pub required_keys_of : List Extra → Result RequiredKeys SdfError
required_keys_of entries = do
  points ← required 1 (option_and_then extent_of (value_of (codes "NumPoints") entries))
  profiles ← required 2 (option_and_then extent_of (value_of (codes "NumProfiles") entries))
  x ← required 3 (decimal_at (codes "Xscale") entries)
  y ← required 4 (decimal_at (codes "Yscale") entries)
  z ← required 5 (decimal_at (codes "Zscale") entries)
  data_type ← required 6 (option_and_then type_of (value_of (codes "DataType") entries))
  limited (record {
    size = record { points = points; profiles = profiles };
    data_type = data_type;
    x_scale = x;
    y_scale = y;
    z_scale = z;
  })

-- a decimal is the reading of its literal
abbrev pub IsRead : Decimal → Type 0
IsRead number = decimal_of number.literal ≡ Some number

-- each decimal is the reading of its literal
pub record HasDecimals (keys : RequiredKeys) : Type 0 where
  pub x_scale : IsRead keys.x_scale
  pub y_scale : IsRead keys.y_scale
  pub z_scale : IsRead keys.z_scale
