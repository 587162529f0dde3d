-- The numbers that a demo draws, and the surface and the edits that it makes of them.
use Rattle.std.specs.Prelude.{◌+◌, ◌*◌, ◌/◌, ◌%◌, ◌^◌, ◌++◌, ℕ, zero, suc, pos, List, [], ◌∷◌, map, replicate, false, codes, decimal}
use Rattle.std.specs.List.{range_with_len}
use Rattle.hd_map.specs.declared.types.Adjacency.TheVariants.{Eight}
use Rattle.hd_map.specs.declared.types.Cell.{Cell}
use Rattle.hd_map.specs.declared.types.Cell.TheVariants.{Height}
use Rattle.hd_map.specs.declared.types.DataType.TheVariants.{U16}
use Rattle.hd_map.specs.declared.types.Pos.{Pos}
use Rattle.hd_map.specs.declared.types.Size.{Size}
use Rattle.hd_map.specs.Map.{Map, cell_count, position_at}
use Rattle.hd_num.specs.declared.decimal.Decimal.{Decimal}
use Rattle.hd_sdf_read.specs.declared.file.Version.TheVariants.{Bcr}
use Rattle.hd_sdf_read.specs.File.{File}
use Rattle.hd_sdf_read.specs.Grammar.{minus_one}

-- the number that is drawn after another
unfoldable pub next_draw : ℕ → ℕ
next_draw s = (s * 1664525 + 1013904223) % 2 ^ 32

-- the number that stands after n draws
abbrev pub drawn : ℕ → ℕ → ℕ
drawn number zero = number
drawn number (suc n) = next_draw (drawn number n)

-- the height that a drawn number makes, from 0 to 4,095
abbrev pub height_in : ℕ → ℕ
height_in s = s / 2 ^ 20

-- the index that a drawn number makes among so many
abbrev pub index_in : ℕ → ℕ → ℕ
index_in count s = s % count

-- the cell that a drawn number makes
abbrev pub cell_in : ℕ → Cell
cell_in s = Height (pos (height_in s))

-- the first n cells in position order, with one draw for each
abbrev pub drawn_cells : ℕ → ℕ → List Cell
drawn_cells number n = map (λ k. cell_in (drawn number (k + 1))) (range_with_len 0 n)

-- the surface of a size, on which no point is masked, with eight neighbours
abbrev pub drawn_map : Size → ℕ → Map
drawn_map size number = record {
  size = size;
  data_type = U16;
  cells = drawn_cells number (cell_count size);
  masks = replicate (cell_count size) false;
  adjacency = Eight;
}

-- one metre
abbrev pub one : Decimal
one = record { negative = false; digits = 1; exponent = pos 0; literal = codes "1" }

-- the file of a map whose scales are 1: it has no texts and no extra keys
abbrev pub file_on : Map → File
file_on m = record {
  version = Bcr;
  manufac_id = [];
  create_date = [];
  mod_date = [];
  x_scale = one;
  y_scale = one;
  z_scale = one;
  z_resolution = minus_one;
  extra = [];
  map = m;
  trailer = [];
}

-- the file of a demo's surface
abbrev pub drawn_file : Size → ℕ → File
drawn_file size number = file_on (drawn_map size number)

-- `set X Y HEIGHT`
abbrev pub set_line : Pos → ℕ → List ℕ
set_line at height = codes "set " ++ decimal at.x ++ 32 ∷ [] ++ decimal at.y ++ 32 ∷ [] ++ decimal height

-- the line that sets the cell of an index by one drawn number to the height by another
abbrev pub edit_by : Size → ℕ → ℕ → List ℕ
edit_by size first second = set_line (position_at size (index_in (cell_count size) first)) (height_in second)

-- how many draws stand before the edit of a number, counted from 0: one for each cell, and two for each edit
abbrev pub draws_before : Size → ℕ → ℕ
draws_before size n = cell_count size + 2 * n

-- the edit of a number, counted from 0
abbrev pub drawn_edit : Size → ℕ → ℕ → List ℕ
drawn_edit size number n =
    edit_by size (drawn number (draws_before size n + 1)) (drawn number (draws_before size n + 2))
