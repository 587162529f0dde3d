-- A text, part by part.
use Rattle.std.proofs.Common.{◌≡◌, ℕ, List, [], drop, Ok, Err, refl}
use Rattle.std.specs.Prelude.{true, false}
use Rattle.hd_map.specs.declared.types.DataType.{DataType}
use Rattle.hd_map.specs.declared.types.Size.{Size}
use Rattle.hd_map.specs.Map.{cell_count, greatest_height, least_height}
use Rattle.hd_num.specs.Lines.{lines_of}
use Rattle.hd_sdf_read.specs.declared.error.SdfError.{SdfError}
use Rattle.hd_sdf_read.specs.declared.file.Extra.{Extra}
use Rattle.hd_sdf_read.specs.declared.file.Version.{Version}
use Rattle.hd_sdf_read.specs.Entries.{Header, header_from}
use Rattle.hd_sdf_read.specs.Grammar.{Cells, Mapped, after_lines, body_in, cells_from, file_in, file_with, map_with, mapped, trailer_of, version_of}
use Rattle.hd_sdf_read.specs.RequiredKeys.{RequiredKeys, required_keys_of}
use Rattle.hd_sdf_read.specs.Decimals.{Decimals, cells_at, decimals_from, most_places_in}
use Rattle.hd_sdf_read.specs.Keys.{has_decimals, with_places}

module _ (bytes : List ℕ) where
  pub file_in-whole_header : (version : Version) (header : Header) (text : List ℕ) → version_of (lines_of bytes) ≡ Ok version
      → header_from 2 [] (drop 1 (lines_of bytes)) ≡ Ok header → after_lines header.last bytes ≡ text
      → file_in bytes ≡ body_in version header.entries text
  unfolding file_in
  file_in-whole_header version header text right whole rest = rw (right, whole, rest) refl

module _ (version : Version) (entries : List Extra) (text : List ℕ) where
  pub body_in-no_required_keys : (e : SdfError) → required_keys_of entries ≡ Err e → body_in version entries text ≡ Err e
  unfolding body_in
  body_in-no_required_keys e wrong = rw wrong refl

  pub body_in-whole_body : (keys : RequiredKeys) (parts : Mapped) (trailer : List ℕ) → required_keys_of entries ≡ Ok keys → mapped keys.size keys.data_type text ≡ Ok parts
      → trailer_of (cell_count keys.size) parts.rest ≡ Ok trailer
      → body_in version entries text ≡ Ok (file_with version entries keys parts.map trailer)
  unfolding body_in
  body_in-whole_body keys parts trailer right whole end = rw (right, whole, end) refl

module _ (size : Size) (t : DataType) (text : List ℕ) where
  -- the map of whole numbers
  pub mapped-whole_numbers : (parts : Cells) → has_decimals t ≡ false → cells_from (least_height t) (greatest_height t) 0 (cell_count size) text ≡ Ok parts
      → mapped size t text ≡ Ok (record { map = map_with size t parts.cells; rest = parts.rest })
  unfolding mapped
  mapped-whole_numbers parts type read = rw (type, read) refl

  -- the map of decimals
  pub mapped-decimals : (parts : Decimals) → has_decimals t ≡ true → decimals_from [] (cell_count size) text ≡ Ok parts
      → mapped size t text ≡ Ok (record { map = map_with size (with_places t (most_places_in parts.items)) (cells_at (most_places_in parts.items) parts.items); rest = parts.rest })
  unfolding mapped
  mapped-decimals parts type read = rw (type, read) refl
