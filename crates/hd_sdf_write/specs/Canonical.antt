-- The canonical text of an SDF file.
use Rattle.std.specs.Prelude.{◌+◌, ◌*◌, ◌==◌, ◌++◌, ℕ, zero, suc, Bool, true, false, List, [], ◌∷◌, length, slice_range, if◌then◌else◌, codes}
use Rattle.std.specs.Fmt.{decimal}
use Rattle.std.specs.List.{flat_map, list_any}
use Rattle.hd_map.specs.declared.types.Cell.{Cell}
use Rattle.hd_map.specs.declared.types.Cell.TheVariants.{Height, Bad}
use Rattle.hd_map.specs.declared.types.DataType.{DataType}
use Rattle.hd_map.specs.Map.{Map, code_of, places_of}
use Rattle.hd_map.specs.Unmasked.{unmasked}
use Rattle.hd_num.specs.Steps.{steps_text}
use Rattle.hd_sdf_read.specs.declared.file.Extra.{Extra}
use Rattle.hd_sdf_read.specs.declared.file.Version.{Version}
use Rattle.hd_sdf_read.specs.declared.file.Version.TheVariants.{Bcr, Iso}
use Rattle.hd_sdf_read.specs.File.{File}
use Rattle.hd_sdf_read.specs.Keys.{with_places}

-- a text as a line: an LF ends it
abbrev pub line : List ℕ → List ℕ
line text = text ++ 10 ∷ []

-- a key and its value; nothing follows the `=` where the value is empty
abbrev pub entry_text : List ℕ → List ℕ → List ℕ
entry_text key value = if length value == 0 then key ++ codes " =" else key ++ codes " = " ++ value

-- the line of a key
unfoldable pub entry_line : List ℕ → List ℕ → List ℕ
entry_line key value = line (entry_text key value)

-- the version, as line 1 names it
abbrev pub version_text : Version → List ℕ
version_text Bcr = codes "aBCR-1.0"
version_text Iso = codes "aISO-1.0"

-- the names, the dates and the size
unfoldable pub name_lines : File → List ℕ
name_lines f = entry_line (codes "ManufacID") f.manufac_id
    ++ entry_line (codes "CreateDate") f.create_date
    ++ entry_line (codes "ModDate") f.mod_date
    ++ entry_line (codes "NumPoints") (decimal f.map.size.points)
    ++ entry_line (codes "NumProfiles") (decimal f.map.size.profiles)

-- the scales and the resolution
unfoldable pub scale_lines : File → List ℕ
scale_lines f = entry_line (codes "Xscale") f.x_scale.literal
    ++ entry_line (codes "Yscale") f.y_scale.literal
    ++ entry_line (codes "Zscale") f.z_scale.literal
    ++ entry_line (codes "Zresolution") f.z_resolution.literal

-- how the data are written
unfoldable pub encoding_lines : File → List ℕ
encoding_lines f = entry_line (codes "Compression") (codes "0")
    ++ entry_line (codes "DataType") (decimal (code_of f.map.data_type))
    ++ entry_line (codes "CheckType") (codes "0")

-- the lines of the extra keys
abbrev pub extra_lines : List Extra → List ℕ
extra_lines extra = flat_map (λ e. entry_line e.key e.value) extra

-- a datum of a type: the height, with the decimal places of the type, or `BAD` where none was measured. Masks are
-- not written
abbrev pub cell_text : DataType → Cell → List ℕ
cell_text t (Height h) = steps_text h (places_of t)
cell_text t Bad = codes "BAD"

-- data of a type with one space between each two
abbrev pub spaced : DataType → List Cell → List ℕ
spaced t [] = []
spaced t (cell ∷ cells) = cell_text t cell ++ flat_map (λ c. 32 ∷ cell_text t c) cells

-- the cells of a profile
abbrev pub profile : Map → ℕ → List Cell
profile m y = slice_range m.cells (y * m.size.points) (y * m.size.points + m.size.points)

-- the lines of so many profiles, one for each
unfoldable pub profile_lines : Map → ℕ → List ℕ
profile_lines m zero = []
profile_lines m (suc y) = profile_lines m y ++ line (spaced m.data_type (profile m y))

-- the end of the data, and the trailer where there is one
unfoldable pub end_lines : List ℕ → List ℕ
end_lines trailer = line (codes "*") ++ (if length trailer == 0 then [] else line trailer)

-- the header
abbrev pub header_lines : File → List ℕ
header_lines f = line (version_text f.version)
    ++ name_lines f
    ++ scale_lines f
    ++ encoding_lines f
    ++ extra_lines f.extra
    ++ line (codes "*")

-- the canonical text of a file
unfoldable pub canonical : File → List ℕ
canonical f = header_lines f
    ++ profile_lines f.map f.map.size.profiles
    ++ end_lines f.trailer

-- whether a cell was measured
abbrev pub is_height : Cell → Bool
is_height (Height h) = true
is_height Bad = false

-- the data type as the text of a map gives it: where no point is measured, decimals have no places
abbrev pub type_read : Map → DataType
type_read m = if list_any is_height m.cells then m.data_type else with_places m.data_type 0

-- the map with another data type
abbrev pub typed : DataType → Map → Map
typed t m = record m { data_type = t }

-- the file as its text gives it, with no mask
abbrev pub as_read : File → File
as_read f = record f { map = typed (type_read f.map) (unmasked f.map) }
