-- What stands behind a header can still become.
use Rattle.std.specs.Prelude.{◌≡◌, ◌++◌, ℕ, List, Result, Ok, Err}
use Rattle.hd_map.specs.declared.cells.Cells as packed
use Rattle.hd_map.specs.declared.types.Size.{Size}
use Rattle.hd_map.specs.Cells.{cells_in}
use Rattle.hd_map.specs.Surface.{map_of}
use Rattle.hd_sdf_read.specs.declared.body.Body.{Body}
use Rattle.hd_sdf_read.specs.declared.body.Body.TheVariants as bodies
use Rattle.hd_sdf_read.specs.declared.error.SdfError.{SdfError}
use Rattle.hd_sdf_read.specs.declared.error.SdfError.TheVariants.{Memory}
use Rattle.hd_sdf_read.specs.Bodies.{Surveyed, decimal_in, trailed, whole_in}
use Rattle.hd_sdf_read.specs.Scaling.{data_of}
use Rattle.hd_sdf_read.specs.declared.scaled.Scaled.{Scaled}
use Rattle.hd_map.specs.declared.types.DataType.{DataType}
use Rattle.hd_sdf_read.specs.PartTrailers.{trailer_on}
use Rattle.hd_sdf_read.specs.Reads.{◌>>=◌}

-- the map and the trailer, or the first offence, of what has come behind a header and more behind it
abbrev pub body_on : Body → List ℕ → Result Surveyed SdfError
body_on (bodies.Whole part) more = whole_in part.size part.cells.data_type (cells_in part.cells) (part.token.text ++ more)
body_on (bodies.Decimals part) more = decimal_in part.size part.data_type (data_of part.scaled) (part.token.text ++ more)
body_on (bodies.End surface token) more = trailed (map_of surface).size (record { map = map_of surface; rest = token.text ++ more })
body_on (bodies.Trailer surface trailer) more = trailer_on trailer more >>= (λ text. Ok (record { map = map_of surface; trailer = text }))

-- a piece is read on: what can still become stays, or this is the offence of each continuation
abbrev pub FeedsBody : Body → List ℕ → Result Body SdfError → Type 0
FeedsBody old piece (Ok new) = (more : List ℕ) → body_on old (piece ++ more) ≡ body_on new more
FeedsBody old piece (Err e) = (e ≡ Memory → ⊥) → (more : List ℕ) → body_on old (piece ++ more) ≡ Err e

-- the same, where these whole numbers have come
abbrev pub GoesOn : Size → packed.Cells → List ℕ → Result Body SdfError → Type 0
GoesOn size cells text (Ok body) = (more : List ℕ) → whole_in size cells.data_type (cells_in cells) (text ++ more) ≡ body_on body more
GoesOn size cells text (Err e) = (e ≡ Memory → ⊥) → (more : List ℕ) → whole_in size cells.data_type (cells_in cells) (text ++ more) ≡ Err e

-- or these decimals
abbrev pub DecimalsGoOn : Size → DataType → Scaled → List ℕ → Result Body SdfError → Type 0
DecimalsGoOn size t scaled text (Ok body) = (more : List ℕ) → decimal_in size t (data_of scaled) (text ++ more) ≡ body_on body more
DecimalsGoOn size t scaled text (Err e) = (e ≡ Memory → ⊥) → (more : List ℕ) → decimal_in size t (data_of scaled) (text ++ more) ≡ Err e
