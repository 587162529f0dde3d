-- What an SDF file holds, and the forms of its texts.
use Rattle.std.specs.Prelude.{◌≡◌, ◌≤◌, ◌&&◌, ℕ, nat_le, Bool, true, not, List, [], ◌∷◌, length, Some, is_none, bytes_eq}
use Rattle.std.specs.List.{list_all, list_any}
use Rattle.hd_map.specs.Map.{Map}
use Rattle.hd_num.specs.Decimal.{decimal_of}
use Rattle.hd_num.specs.Lines.{is_line_feed, trimmed, trimmed_by}
use Rattle.hd_num.specs.declared.decimal.Decimal.{Decimal}
use Rattle.hd_sdf_read.specs.declared.file.Extra.{Extra}
use Rattle.hd_sdf_read.specs.declared.file.Version.{Version}
use Rattle.hd_sdf_read.specs.Entries.{extra_entries, has_key, is_comment, is_equals, is_key, is_value}
use Rattle.hd_sdf_read.specs.Keys.{form_of}
use Rattle.hd_sdf_read.specs.Tokens.{is_gap}

-- a file: its texts, and the map of its surface
pub record File : Type 0 where
  pub version : Version
  pub manufac_id : List ℕ
  pub create_date : List ℕ
  pub mod_date : List ℕ
  pub x_scale : Decimal
  pub y_scale : Decimal
  pub z_scale : Decimal
  pub z_resolution : Decimal
  pub extra : List Extra
  pub map : Map
  pub trailer : List ℕ

-- the text begins and ends with no blank, and is one line
abbrev pub is_trimmed_line : List ℕ → Bool
is_trimmed_line text = bytes_eq (trimmed text) text && not (list_any is_line_feed text)

-- a value as a header gives it
abbrev pub is_header_value : List ℕ → Bool
is_header_value text = is_value text && is_trimmed_line text

-- a key as a header gives it: it has no `=`, and does not begin with `;`
abbrev pub is_header_key : List ℕ → Bool
is_header_key text =
    is_key text && is_trimmed_line text && not (list_any is_equals text) && not (is_comment text)

-- a key with its value
abbrev pub is_entry : Extra → Bool
is_entry e = is_header_key e.key && is_header_value e.value

-- the same, where the key is not known
abbrev pub is_extra : Extra → Bool
is_extra e = is_entry e && is_none (form_of e.key)

-- no key comes twice
abbrev pub are_apart : List Extra → Bool
are_apart [] = true
are_apart (e ∷ more) = not (has_key e.key more) && are_apart more

-- the entries of a header
pub record AreGood (entries : List Extra) : Type 0 where
  pub forms : list_all is_entry entries ≡ true
  pub apart : are_apart entries ≡ true
  pub few : length (extra_entries entries) ≤ 240

-- at most 65,536 bytes, without blanks and LFs at both ends
abbrev pub is_trailer : List ℕ → Bool
is_trailer text = nat_le (length text) 65536 && bytes_eq (trimmed_by is_gap text) text

-- the texts of a file have their forms
pub record HasForms (file : File) : Type 0 where
  pub manufac_id : is_header_value file.manufac_id ≡ true
  pub create_date : is_header_value file.create_date ≡ true
  pub mod_date : is_header_value file.mod_date ≡ true
  pub x_scale : decimal_of file.x_scale.literal ≡ Some file.x_scale
  pub y_scale : decimal_of file.y_scale.literal ≡ Some file.y_scale
  pub z_scale : decimal_of file.z_scale.literal ≡ Some file.z_scale
  pub z_resolution : decimal_of file.z_resolution.literal ≡ Some file.z_resolution
  pub few : length file.extra ≤ 240
  pub extra : list_all is_extra file.extra ≡ true
  pub apart : are_apart file.extra ≡ true
  pub trailer : is_trailer file.trailer ≡ true
