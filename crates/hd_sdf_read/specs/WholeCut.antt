-- Texts that are cut within a token.
use Rattle.std.specs.Prelude.{◌≡◌, ◌≤◌, ◌+◌, ◌++◌, ◌⊎◌, ℕ, ℤ, List, [], length, Option, Some, None, Result, Ok, Err}
use denote.Bor.{Bor}
use Rattle.hd_map.specs.declared.cells.Cells as packed
use Rattle.hd_map.specs.declared.types.Cell.{Cell}
use Rattle.hd_map.specs.declared.types.Size.{Size}
use Rattle.hd_map.specs.Cells.{cells_in}
use Rattle.hd_map.specs.Map.{cell_count}
use Rattle.hd_sdf_read.specs.declared.error.SdfError.{SdfError}
use Rattle.hd_sdf_read.specs.declared.error.SdfError.TheVariants.{Memory}
use Rattle.hd_sdf_read.specs.Bodies.{whole_in}
use Rattle.hd_sdf_read.specs.TokenPieces.{Ends}
use Rattle.hd_sdf_read.specs.Grammar.{datum_at}
use Rattle.hd_sdf_read.specs.Tokens.{after_token}

-- the next datum, whatever follows the text, and the text after it; or none, where its end has not come; or why there
-- is none whatever follows
abbrev pub CutGiven : ℤ → ℤ → ℕ → List ℕ → Result (Option (Cell × Bor (List ℕ))) SdfError → Type 0
CutGiven least greatest read text (Ok (Some (cell, after))) = (more : List ℕ) → (datum_at least greatest read (text ++ more) ≡ Ok cell) × (after.now ++ more ≡ after_token (text ++ more))
CutGiven least greatest read text (Ok None) = after_token text ≡ []
CutGiven least greatest read text (Err e) = (more : List ℕ) → datum_at least greatest read (text ++ more) ≡ Err e

-- whole numbers are read on as far as their ends have come, and what can still become stays
pub record ReadsOn (size : Size) (old : packed.Cells) (text : List ℕ) (new : packed.Cells) (rest : List ℕ) : Type 0 where
  pub same : (more : List ℕ) → whole_in size old.data_type (cells_in old) (text ++ more) ≡ whole_in size new.data_type (cells_in new) (rest ++ more)
  pub data_type : new.data_type ≡ old.data_type
  pub few : length (cells_in new) ≤ cell_count size
  pub ends : (length (cells_in new) ≡ cell_count size) ⊎ (after_token rest ≡ [])

abbrev pub IsReadOn : Size → packed.Cells → List ℕ → Result (packed.Cells × Bor (List ℕ)) SdfError → Type 0
IsReadOn size old text (Ok (new, rest)) = ReadsOn size old text new rest.now
IsReadOn size old text (Err e) = (e ≡ Memory → ⊥) → (more : List ℕ) → whole_in size old.data_type (cells_in old) (text ++ more) ≡ Err e

-- a token is one more whole number, before a gap or the end
pub record TakesWord (size : Size) (old : packed.Cells) (word : List ℕ) (new : packed.Cells) : Type 0 where
  pub same : (rest : List ℕ) → Ends rest → whole_in size old.data_type (cells_in old) (word ++ rest) ≡ whole_in size new.data_type (cells_in new) rest
  pub data_type : new.data_type ≡ old.data_type
  pub count : length (cells_in new) ≡ length (cells_in old) + 1

abbrev pub IsTaken : Size → packed.Cells → List ℕ → Result packed.Cells SdfError → Type 0
IsTaken size old word (Ok new) = TakesWord size old word new
IsTaken size old word (Err e) = (e ≡ Memory → ⊥) → (rest : List ℕ) → Ends rest → whole_in size old.data_type (cells_in old) (word ++ rest) ≡ Err e
