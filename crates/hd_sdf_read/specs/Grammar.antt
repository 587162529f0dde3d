-- The grammar of SDF texts: each text has a file or the first offence.
use Rattle.std.specs.Prelude.{◌||◌, ◌&&◌, ◌+◌, ℕ, ℤ, zero, suc, pos, nat_lt, int_le, true, false, List, [], ◌∷◌, length, drop, replicate, Option, Some, None, Result, Ok, Err, ok_or, unwrap_or, if◌then◌else◌, bytes_eq, codes}
use Rattle.hd_map.specs.declared.types.Adjacency.TheVariants.{Eight}
use Rattle.hd_map.specs.Map.{Map, cell_count, least_height, greatest_height}
use Rattle.hd_map.specs.declared.types.Cell.{Cell}
use Rattle.hd_map.specs.declared.types.Cell.TheVariants.{Height, Bad}
use Rattle.hd_map.specs.declared.types.DataType.{DataType}
use Rattle.hd_map.specs.declared.types.Size.{Size}
use Rattle.hd_num.specs.Lines.{after_line, lines_of, trimmed, trimmed_by}
use Rattle.hd_num.specs.Whole.{whole_of}
use Rattle.hd_num.specs.declared.decimal.Decimal.{Decimal}
use Rattle.hd_num.specs.declared.whole.Whole.{Whole}
use Rattle.hd_num.specs.declared.whole.Whole.TheVariants.{Not, Outside, Is}
use Rattle.hd_sdf_read.specs.declared.error.SdfError.{SdfError}
use Rattle.hd_sdf_read.specs.declared.error.SdfError.TheVariants.{BadVersion, BadDatum, DatumRange, TooFewData, TooManyData, TrailerTooLong}
use Rattle.hd_sdf_read.specs.declared.file.Extra.{Extra}
use Rattle.hd_sdf_read.specs.declared.file.Version.{Version}
use Rattle.hd_sdf_read.specs.declared.file.Version.TheVariants.{Bcr, Iso}
use Rattle.hd_sdf_read.specs.Entries.{extra_entries, header_from, text_of}
use Rattle.hd_sdf_read.specs.File.{File}
use Rattle.hd_sdf_read.specs.Tokens.{is_gap, after_token, is_absent, is_star, token_of}
use Rattle.hd_sdf_read.specs.Decimals.{Decimals, cells_at, decimals_from, most_places_in}
use Rattle.hd_sdf_read.specs.Keys.{has_decimals, with_places}
use Rattle.hd_sdf_read.specs.Reads.{◌>>=◌}
use Rattle.hd_sdf_read.specs.RequiredKeys.{RequiredKeys, decimal_at, required_keys_of}

-- the version that a trimmed line names
abbrev pub version_of_text : List ℕ → Option Version
version_of_text text =
    if bytes_eq text (codes "aBCR-1.0") then Some Bcr
    else if bytes_eq text (codes "aISO-1.0") then Some Iso
    else None

-- the version that a line names, which has at most 1,024 bytes
unfoldable pub version_of_line : List ℕ → Option Version
version_of_line line = if nat_lt 1024 (length line) then None else version_of_text (trimmed line)

-- the version that line 1 names
abbrev pub version_of : List (List ℕ) → Result Version SdfError
version_of [] = Err BadVersion
version_of (line ∷ lines) = ok_or (version_of_line line) BadVersion

-- the text after this many lines
abbrev pub after_lines : ℕ → List ℕ → List ℕ
after_lines zero text = text
after_lines (suc n) text = after_line (after_lines n text)

-- -1
abbrev pub minus_one : Decimal
minus_one = record { negative = true; digits = 1; exponent = pos 0; literal = codes "-1" }

-- the resolution, or -1 where it is absent
abbrev pub resolution_of : List Extra → Decimal
resolution_of entries = unwrap_or (decimal_at (codes "Zresolution") entries) minus_one

-- the cell of a whole number, if it is from the least to the greatest height
abbrev pub height_cell : ℤ → ℤ → ℕ → Whole → Result Cell SdfError
height_cell least greatest number Not = Err (BadDatum number)
height_cell least greatest number Outside = Err (DatumRange number)
height_cell least greatest number (Is h) =
    if int_le least h && int_le h greatest then Ok (Height h)
    else Err (DatumRange number)

-- the cell of the datum of this number: `BAD`, or a whole number in the range
abbrev pub cell_of : ℤ → ℤ → ℕ → List ℕ → Result Cell SdfError
cell_of least greatest number token =
    if bytes_eq token (codes "BAD") then Ok Bad
    else height_cell least greatest number (whole_of token)

-- the cell of the next datum, after so many, if it is there
unfoldable pub datum_at : ℤ → ℤ → ℕ → List ℕ → Result Cell SdfError
datum_at least greatest read text =
    if is_absent (token_of text) || is_star (token_of text) then Err (TooFewData read)
    else cell_of least greatest (read + 1) (token_of text)

-- the cells of data, and the text after them
pub record Cells : Type 0 where
  pub cells : List Cell
  pub rest : List ℕ

-- a cell before others
abbrev pub with_cell : Cell → Cells → Result Cells SdfError
with_cell cell more = Ok (record { cells = cell ∷ more.cells; rest = more.rest })

-- the cells of so many data that are missing yet, after so many that were read
unfoldable pub cells_from : ℤ → ℤ → ℕ → ℕ → List ℕ → Result Cells SdfError
cells_from least greatest read zero text = Ok (record { cells = []; rest = text })
cells_from least greatest read (suc missing) text = do
  cell ← datum_at least greatest read text
  more ← cells_from least greatest (read + 1) missing (after_token text)
  with_cell cell more

-- all bytes after the end of the data, without blanks and LFs at both ends
abbrev pub trailer_text : List ℕ → Result (List ℕ) SdfError
trailer_text text = if nat_lt 65536 (length text) then Err TrailerTooLong else Ok text

-- the trailer in the text after the last of so many data: they end with `*` or with the text
unfoldable pub trailer_of : ℕ → List ℕ → Result (List ℕ) SdfError
trailer_of count text =
    if is_absent (token_of text) then Ok []
    else if is_star (token_of text) then trailer_text (trimmed_by is_gap (after_token text))
    else Err (TooManyData (count + 1))

-- the map of cells, with no mask and with eight neighbours
abbrev pub map_with : Size → DataType → List Cell → Map
map_with size data_type cells = record {
  size = size;
  data_type = data_type;
  cells = cells;
  masks = replicate (cell_count size) false;
  adjacency = Eight;
}

-- the map of data, and the text after them
pub record Mapped : Type 0 where
  pub map : Map
  pub rest : List ℕ

-- the map of whole numbers
abbrev pub whole_map : Size → DataType → Cells → Result Mapped SdfError
whole_map size t parts = Ok (record { map = map_with size t parts.cells; rest = parts.rest })

-- the map of decimals, in steps of the last of the greatest number of places among them
abbrev pub decimal_map : Size → DataType → Decimals → Result Mapped SdfError
decimal_map size t parts = Ok (record {
  map = map_with size (with_places t (most_places_in parts.items)) (cells_at (most_places_in parts.items) parts.items);
  rest = parts.rest;
})

-- the map of data of a type
unfoldable pub mapped : Size → DataType → List ℕ → Result Mapped SdfError
mapped size t text =
    if has_decimals t then (decimals_from [] (cell_count size) text >>= decimal_map size t)
    else (cells_from (least_height t) (greatest_height t) 0 (cell_count size) text >>= whole_map size t)

-- the file of these parts
abbrev pub file_with : Version → List Extra → RequiredKeys → Map → List ℕ → File
file_with version entries keys map trailer = record {
  version = version;
  manufac_id = text_of (codes "ManufacID") entries;
  create_date = text_of (codes "CreateDate") entries;
  mod_date = text_of (codes "ModDate") entries;
  x_scale = keys.x_scale;
  y_scale = keys.y_scale;
  z_scale = keys.z_scale;
  z_resolution = resolution_of entries;
  extra = extra_entries entries;
  map = map;
  trailer = trailer;
}

-- the file of a version, the entries of a header and the text after it, or the first offence there
unfoldable pub body_in : Version → List Extra → List ℕ → Result File SdfError
body_in version entries text = do
  keys ← required_keys_of entries
  parts ← mapped keys.size keys.data_type text
  trailer ← trailer_of (cell_count keys.size) parts.rest
  Ok (file_with version entries keys parts.map trailer)

-- the file that a text is, or the first offence
unfoldable pub file_in : List ℕ → Result File SdfError
file_in bytes = do
  version ← version_of (lines_of bytes)
  header ← header_from 2 [] (drop 1 (lines_of bytes))
  body_in version header.entries (after_lines header.last bytes)
