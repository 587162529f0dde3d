-- What a text behind a header can still become whose front is read.
use Rattle.std.specs.Prelude.{◌-◌, ◌++◌, ℕ, List, length, Result, Ok, Err}
use Rattle.hd_map.specs.declared.types.Cell.{Cell}
use Rattle.hd_sdf_read.specs.declared.scaled.Datum.{Datum}
use Rattle.hd_sdf_read.specs.Decimals.{decimals_from}
use Rattle.hd_map.specs.declared.types.DataType.{DataType}
use Rattle.hd_map.specs.declared.types.Size.{Size}
use Rattle.hd_map.specs.Map.{Map, cell_count, greatest_height, least_height}
use Rattle.hd_sdf_read.specs.declared.error.SdfError.{SdfError}
use Rattle.hd_sdf_read.specs.Grammar.{Cells, Mapped, cells_from, decimal_map, mapped, trailer_of, whole_map}
use Rattle.hd_sdf_read.specs.Reads.{◌>>=◌}

-- a map and the trailer behind it
pub record Surveyed : Type 0 where
  pub map : Map
  pub trailer : List ℕ

-- the trailer behind the data of a map of this size
unfoldable pub trailed : Size → Mapped → Result Surveyed SdfError
trailed size parts = trailer_of (cell_count size) parts.rest >>= (λ trailer. Ok (record { map = parts.map; trailer = trailer }))

-- the map and the trailer of a text behind a header
unfoldable pub surveyed : Size → DataType → List ℕ → Result Surveyed SdfError
surveyed size t text = mapped size t text >>= trailed size

-- cells before those that are read
abbrev pub with_front : List Cell → Result Cells SdfError → Result Cells SdfError
with_front front (Ok more) = Ok (record { cells = front ++ more.cells; rest = more.rest })
with_front front (Err e) = Err e

-- the same, where these cells of whole numbers are read
unfoldable pub whole_in : Size → DataType → List Cell → List ℕ → Result Surveyed SdfError
whole_in size t front text =
    (with_front front (cells_from (least_height t) (greatest_height t) (length front) (cell_count size - length front) text) >>= whole_map size t) >>= trailed size

-- the map and the trailer of a text behind these decimals
unfoldable pub decimal_in : Size → DataType → List Datum → List ℕ → Result Surveyed SdfError
decimal_in size t ds text = (decimals_from ds (cell_count size - length ds) text >>= decimal_map size t) >>= trailed size
