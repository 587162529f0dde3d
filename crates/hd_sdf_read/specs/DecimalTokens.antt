-- The tokens of decimals: how one is read, and the datum that it gives.
use Rattle.std.specs.Prelude.{◌≡◌, ◌≤◌, ◌+◌, ◌++◌, ℕ, Bool, true, false, List, [], ◌∷◌, length, take, drop, Some, Result, Ok, Err}
use Rattle.std.specs.Char.{is_ascii_digit}
use Rattle.std.specs.List.{list_all, position_or_len}
use Rattle.std.specs.Str.Parse.{digits_value}
use denote.Bor.{Bor}
use Rattle.hd_num.specs.Decimal.{decimal_of}
use Rattle.hd_num.specs.declared.decimal.Decimal.{Decimal}
use Rattle.hd_sdf_read.specs.declared.error.SdfError.{SdfError}
use Rattle.hd_sdf_read.specs.declared.error.SdfError.TheVariants.{Memory}
use Rattle.hd_sdf_read.specs.declared.scaled.Datum.{Datum}
use Rattle.hd_sdf_read.specs.Decimals.{IsSmall, data_with, datum_of, measured, ranged}
use Rattle.hd_sdf_read.specs.Tokens.{is_gap, after_token, is_absent, is_star, token_of}
use Rattle.hd_sdf_read.specs.Reads.{◌>>=◌}

-- a token gives this datum, which alone is in range, or the first offence behind any data
abbrev pub TokenGiven : ℕ → List ℕ → Result Datum SdfError → Type 0
TokenGiven number token (Ok d) = (datum_of number token ≡ Ok d) × IsSmall d
TokenGiven number token (Err e) = (e ≡ Memory → ⊥) → (before : List Datum) → number ≡ length before + 1
    → (datum_of number token >>= (λ datum. ranged (before ++ datum ∷ []))) ≡ Err e

-- the next token is this datum, after so many
pub record IsNextDatum (read : ℕ) (text : List ℕ) (d : Datum) : Type 0 where
  pub some : is_absent (token_of text) ≡ false
  pub other : is_star (token_of text) ≡ false
  pub datum : datum_of (read + 1) (token_of text) ≡ Ok d
  pub small : IsSmall d

-- the next datum, after so many, and the text after it, or why there is none
abbrev pub DecimalGiven : ℕ → List ℕ → Result (Datum × Bor (List ℕ)) SdfError → Type 0
DecimalGiven read text (Ok (d, rest)) = IsNextDatum read text d × (rest.now ≡ after_token text)
DecimalGiven read text (Err e) = (e ≡ Memory → ⊥) → (before : List Datum) → length before ≡ read → data_with before (token_of text) ≡ Err e

-- a point and these digits, or nothing
abbrev pub pointed : Bool → List ℕ → List ℕ
pointed true fraction = 46 ∷ fraction
pointed false fraction = []

-- the digits at the front of a text, with a point or none, make so many units of the last of so many places
pub record AreUnits (text : List ℕ) (units places : ℕ) (rest : List ℕ) : Type 0 where
  pub whole : List ℕ
  pub fraction : List ℕ
  pub point : Bool
  pub bare : point ≡ false → fraction ≡ []
  pub text_is : text ≡ (whole ++ pointed point fraction) ++ rest
  pub whole_digits : list_all is_ascii_digit whole ≡ true
  pub fraction_digits : list_all is_ascii_digit fraction ≡ true
  pub some : 1 ≤ length whole + length fraction
  pub few : length whole + length fraction ≤ 18
  pub places_are : length fraction ≡ places
  pub units_are : units ≡ digits_value 10 (whole ++ fraction)

-- a token at the front is a decimal of this datum, which alone is in range, and the rest follows it
pub record TakesDecimal (text rest : List ℕ) (d : Datum) : Type 0 where
  pub token : List ℕ
  pub place : take (position_or_len is_gap text) text ≡ token
  pub after : drop (position_or_len is_gap text) text ≡ rest
  pub filled : is_absent token ≡ false
  pub decimal : Decimal
  pub is_decimal : decimal_of token ≡ Some decimal
  pub is_measured : measured decimal ≡ d
  pub small : IsSmall d
