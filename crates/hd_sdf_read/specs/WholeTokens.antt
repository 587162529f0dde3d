-- The tokens of whole numbers: how one is read, and the cell that it gives.
use Rattle.std.specs.Prelude.{◌≡◌, ◌==◌, ◌<◌, ◌^◌, ℕ, ℤ, int_le, true, false, List, length, slice_index, take, drop}
use Rattle.std.specs.Char.{is_ascii_digit}
use Rattle.std.specs.List.{list_all, position_or_len}
use Rattle.std.specs.Str.Parse.{digits_value}
use Rattle.hd_map.specs.declared.types.Cell.{Cell}
use Rattle.hd_map.specs.declared.types.Cell.TheVariants.{Height}
use Rattle.hd_num.specs.Whole.{whole_of}
use Rattle.hd_num.specs.declared.whole.Whole.TheVariants.{Is}
use Rattle.hd_sdf_read.specs.Tokens.{is_gap}

-- so many digits at the front of a text, with more bytes behind them, write this number
pub record AreDigits (text : List ℕ) (count n : ℕ) : Type 0 where
  pub within : count < length text
  pub digits : list_all is_ascii_digit (take count text) ≡ true
  pub value : n ≡ digits_value 10 (take count text)
  pub bound : n < 10 ^ 18

-- digits at the front of a text write this number, and the rest follows them from a gap on
pub record TakesNumber (text rest : List ℕ) (n : ℕ) : Type 0 where
  pub count : ℕ
  pub some : 0 < count
  pub digits : AreDigits text count n
  pub after : rest ≡ drop count text
  pub begins : is_gap (slice_index rest 0) ≡ true

-- a token at the front is this whole number, and the rest follows it
pub record TakesHeight (text rest : List ℕ) (height : ℤ) : Type 0 where
  pub token : List ℕ
  pub place : take (position_or_len is_gap text) text ≡ token
  pub after : drop (position_or_len is_gap text) text ≡ rest
  pub filled : (length token == 0) ≡ false
  pub number : whole_of token ≡ Is height

-- the same, where the number is in the range and gives this cell
pub record TakesCell (least greatest : ℤ) (text rest : List ℕ) (cell : Cell) : Type 0 where
  pub height : ℤ
  pub takes : TakesHeight text rest height
  pub low : int_le least height ≡ true
  pub high : int_le height greatest ≡ true
  pub cell_is : cell ≡ Height height
