-- Data that are read many at once.
use Rattle.std.specs.Prelude.{◌≡◌, ◌+ℤ◌, ◌<◌, ◌≤◌, ◌++◌, ℕ, ℤ, pos, true, List, [], ◌∷◌, length, slice_index, Ok}
use Rattle.hd_map.specs.declared.cells.Cells as packed
use Rattle.hd_map.specs.declared.types.Cell.{Cell}
use Rattle.hd_map.specs.declared.types.Size.{Size}
use Rattle.hd_map.specs.Cells.{cells_in}
use Rattle.hd_map.specs.Map.{cell_count}
use Rattle.hd_num.specs.Whole.{signed_number}
use Rattle.hd_sdf_read.specs.Bodies.{whole_in}
use Rattle.hd_sdf_read.specs.Grammar.{datum_at}
use Rattle.hd_sdf_read.specs.Tokens.{is_gap, after_token}

-- the height that is so far over the least one, which is so far below 0
abbrev pub height_over : ℕ → ℕ → ℤ
height_over below over = signed_number true below +ℤ pos over

-- the next datum of a text, whatever follows the text, has this cell, and the rest follows it from a gap on
pub record IsDatum (least greatest : ℤ) (text rest : List ℕ) (cell : Cell) : Type 0 where
  pub given : (read : ℕ) → (more : List ℕ) → (datum_at least greatest read (text ++ more) ≡ Ok cell) × (rest ++ more ≡ after_token (text ++ more))
  pub left : 0 < length rest
  pub begins : is_gap (slice_index rest 0) ≡ true

-- the next data of a text have these cells, one after another, and the rest follows them
abbrev pub AreData : ℤ → ℤ → List ℕ → List ℕ → List Cell → Type 0
AreData least greatest text rest [] = rest ≡ text
AreData least greatest text rest (cell ∷ cells) = (middle : List ℕ) × IsDatum least greatest text middle cell × AreData least greatest middle rest cells

-- the cells of so many data, for which there is room, come after the others
pub record TakesBatch (least greatest : ℤ) (room : ℕ) (old : packed.Cells) (text : List ℕ) (new : packed.Cells) (rest : List ℕ) (count : ℕ) : Type 0 where
  pub more : List Cell
  pub reads : AreData least greatest text rest more
  pub cells : cells_in new ≡ cells_in old ++ more
  pub data_type : new.data_type ≡ old.data_type
  pub count_is : length more ≡ count
  pub few : count ≤ room

-- some whole numbers are read on, and what can still become stays
pub record ReadsShort (size : Size) (old : packed.Cells) (text : List ℕ) (new : packed.Cells) (rest : List ℕ) : Type 0 where
  pub same : (more : List ℕ) → whole_in size old.data_type (cells_in old) (text ++ more) ≡ whole_in size new.data_type (cells_in new) (rest ++ more)
  pub data_type : new.data_type ≡ old.data_type
  pub onward : length (cells_in old) ≤ length (cells_in new)
  pub few : length (cells_in new) ≤ cell_count size
