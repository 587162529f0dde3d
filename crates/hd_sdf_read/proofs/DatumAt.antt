-- The datum at the front of a text, by its token, and that its cell is of the type.
use Rattle.std.proofs.Common.{◌≡◌, ◌+◌, ℕ, ℤ, ◌&&◌, ◌||◌, eqb, length, true, false, inl, inr, List, Ok, Err, refl, sym, ◌∙◌}
use Rattle.std.proofs.lemmas.Bool.{and_parts, cases_Bool}
use Rattle.std.specs.Prelude.{bytes_eq, codes, int_le}
use Rattle.hd_map.specs.Map.{IsCellOf, greatest_height, least_height}
use Rattle.hd_map.specs.declared.types.DataType.{DataType}
use Rattle.hd_map.specs.declared.types.Cell.TheVariants.{Bad, Height}
use Rattle.hd_map.specs.declared.types.Cell.{Cell}
use Rattle.hd_num.specs.Whole.{whole_of}
use Rattle.hd_num.specs.declared.whole.Whole.{Whole}
use Rattle.hd_num.specs.declared.whole.Whole.TheVariants.{Is, Not, Outside}
use Rattle.hd_sdf_read.specs.declared.error.SdfError.TheVariants.{DatumRange, TooFewData}
use Rattle.hd_sdf_read.specs.Grammar.{cell_of, datum_at, height_cell}
use Rattle.hd_sdf_read.specs.Tokens.{is_star, token_of}
use Rattle.hd_num.proofs.Integers.{int_le-holds}

-- a datum that is there is read by its token
pub datum_at-by_token : (least greatest : ℤ) (read : ℕ) (text token : List ℕ) → token ≡ token_of text → eqb (length token) 0 ≡ false → is_star token ≡ false
    → datum_at least greatest read text ≡ cell_of least greatest (read + 1) token
unfolding datum_at
datum_at-by_token least greatest read text token is filled other = rw (← is, filled, other) refl

-- the cell of a whole number is of the type
height_cell-fits : (t : DataType) (n : ℕ) (w : Whole) (cell : Cell) → height_cell (least_height t) (greatest_height t) n w ≡ Ok cell → IsCellOf t cell
height_cell-fits t n Not cell e = cc
height_cell-fits t n Outside cell e = cc
height_cell-fits t n (Is h) cell e = elim (cases_Bool (int_le (least_height t) h && int_le h (greatest_height t))) [
  | inl within ↦ λ z is.
      let same : Ok (Height h) ≡ Ok cell = sym (rw within refl) ∙ e in
      let height : h ≡ z = cc in
      let parts : (int_le (least_height t) h ≡ true) × (int_le h (greatest_height t) ≡ true) = and_parts _ _ within in
      let low = int_le-holds (least_height t) h parts.0 in
      let high = int_le-holds h (greatest_height t) parts.1 in
      (rw height at low, rw height at high)
  | inr outside ↦ let wrong : Err (DatumRange n) ≡ Ok cell = sym (rw outside refl) ∙ e in cc
]

-- the cell of a datum is of the type
pub datum_at-fits : (t : DataType) (least greatest : ℤ) (read : ℕ) (text : List ℕ) (cell : Cell) → least ≡ least_height t → greatest ≡ greatest_height t
    → datum_at least greatest read text ≡ Ok cell → IsCellOf t cell
unfolding datum_at
datum_at-fits t least greatest read text cell low high e = elim (cases_Bool (eqb (length (token_of text)) 0 || is_star (token_of text))) [
  | inl none ↦ let wrong : Err (TooFewData read) ≡ Ok cell = sym (rw none refl) ∙ e in cc
  | inr some ↦
      let found : cell_of least greatest (read + 1) (token_of text) ≡ Ok cell = rw some at e in
      elim (cases_Bool (bytes_eq (token_of text) (codes "BAD"))) [
        | inl bad ↦ λ z is. let same : Ok Bad ≡ Ok cell = sym (rw bad refl) ∙ found in cc
        | inr good ↦ height_cell-fits t (read + 1) (whole_of (token_of text)) cell (rw (low, high, good) at found)
      ]
]
