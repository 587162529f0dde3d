-- The data of types of decimals.
use Rattle.std.specs.Prelude.{◌≤◌, ◌+◌, ◌-◌, ◌*◌, ◌^◌, ◌++◌, ℕ, ℤ, zero, suc, pos, negsuc, unsigned_abs, max, nat_le, Bool, ◌&&◌, ◌||◌, List, [], ◌∷◌, length, map, Option, Some, None, Result, Ok, Err, if◌then◌else◌, bytes_eq, codes, int_lt}
use Rattle.std.specs.List.{list_all}
use Rattle.hd_map.specs.declared.types.Cell.{Cell}
use Rattle.hd_map.specs.declared.types.Cell.TheVariants.{Height, Bad}
use Rattle.hd_num.specs.Decimal.{decimal_of}
use Rattle.hd_num.specs.Whole.{signed_number}
use Rattle.hd_num.specs.declared.decimal.Decimal.{Decimal}
use Rattle.hd_sdf_read.specs.declared.error.SdfError.{SdfError}
use Rattle.hd_sdf_read.specs.declared.scaled.Datum.{Datum}
use Rattle.hd_sdf_read.specs.declared.scaled.Datum.TheVariants.{Unmeasured, Measured}
use Rattle.hd_sdf_read.specs.declared.error.SdfError.TheVariants.{BadDecimal, DatumRange, TooFewData}
use Rattle.hd_sdf_read.specs.Reads.{◌>>=◌}
use Rattle.hd_sdf_read.specs.Tokens.{after_token, is_absent, is_star, token_of}

-- the places of a decimal: its digits after the point less its written exponent, and at least 0
abbrev pub places_below : ℤ → ℕ
places_below (pos n) = 0
places_below (negsuc n) = suc n

-- how far its exponent is above 0
abbrev pub power_above : ℤ → ℕ
power_above (pos n) = n
power_above (negsuc n) = 0

-- what a decimal measures
abbrev pub measured : Decimal → Datum
measured d = Measured d.negative (d.digits * 10 ^ power_above d.exponent) (places_below d.exponent)

-- the datum of a decimal
abbrev pub decimal_datum : ℕ → Option Decimal → Result Datum SdfError
decimal_datum number (Some d) = Ok (measured d)
decimal_datum number None = Err (BadDecimal number)

-- the datum of this number: `BAD`, or a decimal
abbrev pub datum_of : ℕ → List ℕ → Result Datum SdfError
datum_of number token = if bytes_eq token (codes "BAD") then Ok Unmeasured else decimal_datum number (decimal_of token)

-- the places of a datum
abbrev pub places_in : Datum → ℕ
places_in Unmeasured = 0
places_in (Measured negative units places) = places

-- the greatest number of places of data
abbrev pub most_places_in : List Datum → ℕ
most_places_in [] = 0
most_places_in (d ∷ ds) = max (places_in d) (most_places_in ds)

-- how many steps of the last of so many places a datum is from 0
abbrev pub steps_at : ℕ → Datum → ℕ
steps_at places Unmeasured = 0
steps_at places (Measured negative units own) = units * 10 ^ (places - own)

-- the cell of a datum in steps of the last of so many places
abbrev pub cell_at : ℕ → Datum → Cell
cell_at places Unmeasured = Bad
cell_at places (Measured negative units own) = Height (signed_number negative (units * 10 ^ (places - own)))

-- the cells of data in steps of the last of so many places
abbrev pub cells_at : ℕ → List Datum → List Cell
cells_at places ds = map (cell_at places) ds

-- the most places of a datum, and the most steps that one is from 0
abbrev pub most_places : ℕ
most_places = 18

abbrev pub most_steps : ℕ
most_steps = 9007199254740992

-- no datum has more than 18 places, and each, times ten to the greatest number of places among them, is from
-- -9,007,199,254,740,992 to 9,007,199,254,740,992
abbrev pub are_in_range : List Datum → Bool
are_in_range ds = nat_le (most_places_in ds) most_places && list_all (λ d. nat_le (steps_at (most_places_in ds) d) most_steps) ds

-- data that are in range
abbrev pub ranged : List Datum → Result (List Datum) SdfError
ranged ds = if are_in_range ds then Ok ds else Err (DatumRange (length ds))

-- the next datum behind others, from its token
unfoldable pub data_with : List Datum → List ℕ → Result (List Datum) SdfError
data_with before token =
    if is_absent token || is_star token then Err (TooFewData (length before))
    else (datum_of (length before + 1) token >>= (λ datum. ranged (before ++ datum ∷ [])))

-- data, and the text after them
pub record Decimals : Type 0 where
  pub items : List Datum
  pub rest : List ℕ

-- the data of a text, so many of which are missing yet, behind those that were read
unfoldable pub decimals_from : List Datum → ℕ → List ℕ → Result Decimals SdfError
decimals_from before zero text = Ok (record { items = before; rest = text })
decimals_from before (suc missing) text = data_with before (token_of text) >>= (λ ds. decimals_from ds missing (after_token text))

-- how far a cell is from 0
abbrev pub size_of : Cell → ℕ
size_of (Height h) = unsigned_abs h
size_of Bad = 0

-- the most that a cell is from 0
abbrev pub greatest_in : List Cell → ℕ
greatest_in [] = 0
greatest_in (c ∷ cs) = max (size_of c) (greatest_in cs)

-- a datum that alone is in range
abbrev pub IsSmall : Datum → Type 0
IsSmall Unmeasured = Unit {0}
IsSmall (Measured negative units places) = (places ≤ most_places) × (units ≤ most_steps)

-- the datum of a cell in steps of the last of so many places
abbrev pub datum_for : ℕ → Cell → Datum
datum_for places Bad = Unmeasured
datum_for places (Height h) = Measured (int_lt h (pos 0)) (unsigned_abs h) places

-- the data of cells
abbrev pub data_for : ℕ → List Cell → List Datum
data_for places cells = map (datum_for places) cells
