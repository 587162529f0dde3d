-- Decimals that are cut within a token.
use Rattle.std.specs.Prelude.{◌≡◌, ◌≤◌, ◌+◌, ◌++◌, ◌⊎◌, ℕ, List, [], length, Option, Some, None, Result, Ok, Err}
use denote.Bor.{Bor}
use Rattle.hd_map.specs.declared.types.DataType.{DataType}
use Rattle.hd_map.specs.declared.types.Size.{Size}
use Rattle.hd_map.specs.Cells.{wide_cells_in}
use Rattle.hd_map.specs.Map.{cell_count}
use Rattle.hd_sdf_read.specs.declared.error.SdfError.{SdfError}
use Rattle.hd_sdf_read.specs.declared.error.SdfError.TheVariants.{Memory}
use Rattle.hd_sdf_read.specs.declared.scaled.Datum.{Datum}
use Rattle.hd_sdf_read.specs.declared.scaled.Scaled.{Scaled}
use Rattle.hd_sdf_read.specs.Bodies.{decimal_in}
use Rattle.hd_sdf_read.specs.Decimals.{data_with}
use Rattle.hd_sdf_read.specs.Scaling.{IsScaled, data_of}
use Rattle.hd_sdf_read.specs.DecimalTokens.{IsNextDatum}
use Rattle.hd_sdf_read.specs.Tokens.{after_token, token_of}
use Rattle.hd_sdf_read.specs.TokenPieces.{Ends}

-- the next datum, whatever follows the text, and the text after it; or none, where its end has not come; or why there
-- is none whatever follows
abbrev pub CutDecimal : ℕ → List ℕ → Result (Option (Datum × Bor (List ℕ))) SdfError → Type 0
CutDecimal read text (Ok (Some (d, after))) = (more : List ℕ) → IsNextDatum read (text ++ more) d × (after.now ++ more ≡ after_token (text ++ more))
CutDecimal read text (Ok None) = after_token text ≡ []
CutDecimal read text (Err e) = (e ≡ Memory → ⊥) → (before : List Datum) → length before ≡ read → (more : List ℕ) → data_with before (token_of (text ++ more)) ≡ Err e

-- decimals are read on as far as their ends have come, and what can still become stays
pub record DecimalsOn (size : Size) (t : DataType) (old : Scaled) (text : List ℕ) (new : Scaled) (rest : List ℕ) : Type 0 where
  pub same : (more : List ℕ) → decimal_in size t (data_of old) (text ++ more) ≡ decimal_in size t (data_of new) (rest ++ more)
  pub kept : IsScaled new t (data_of new)
  pub few : length (wide_cells_in new.cells) ≤ cell_count size
  pub ends : (length (wide_cells_in new.cells) ≡ cell_count size) ⊎ (after_token rest ≡ [])

abbrev pub AreReadOn : Size → DataType → Scaled → List ℕ → Result (Scaled × Bor (List ℕ)) SdfError → Type 0
AreReadOn size t old text (Ok (new, rest)) = DecimalsOn size t old text new rest.now
AreReadOn size t old text (Err e) = (e ≡ Memory → ⊥) → (more : List ℕ) → decimal_in size t (data_of old) (text ++ more) ≡ Err e

-- a token is one more decimal, before a gap or the end
pub record TakesDatum (size : Size) (t : DataType) (old : Scaled) (word : List ℕ) (new : Scaled) : Type 0 where
  pub same : (rest : List ℕ) → Ends rest → decimal_in size t (data_of old) (word ++ rest) ≡ decimal_in size t (data_of new) rest
  pub kept : IsScaled new t (data_of new)
  pub count : length (wide_cells_in new.cells) ≡ length (wide_cells_in old.cells) + 1

abbrev pub DatumTaken : Size → DataType → Scaled → List ℕ → Result Scaled SdfError → Type 0
DatumTaken size t old word (Ok new) = TakesDatum size t old word new
DatumTaken size t old word (Err e) = (e ≡ Memory → ⊥) → (rest : List ℕ) → Ends rest → decimal_in size t (data_of old) (word ++ rest) ≡ Err e
