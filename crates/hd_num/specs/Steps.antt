-- Heights as texts, by how many steps they are.
use Rattle.std.specs.Prelude.{◌-◌, ◌/◌, ◌%◌, ◌^◌, ◌==◌, ◌++◌, ℕ, ℤ, pos, neg_ℤ, int_lt, unsigned_abs, List, [], ◌∷◌, length, replicate, decimal, if◌then◌else◌}
use Rattle.std.specs.Fmt.{sign_text}
use Rattle.hd_num.specs.declared.decimal.Decimal.{Decimal}

-- a number below 10^places in that many digits: zeros, and its plain digits
abbrev pub padded : ℕ → ℕ → List ℕ
padded places n = replicate (places - length (decimal n)) 48 ++ decimal n

-- so many steps of 10^-places: the whole part of their value and, where places is not 0, a point and that many digits
abbrev pub magnitude_text : ℕ → ℕ → List ℕ
magnitude_text n places = decimal (n / 10 ^ places) ++ (if places == 0 then [] else (46 ∷ padded places (n % 10 ^ places)))

-- a height of so many steps of 10^-places, with `-` where it is negative
abbrev pub steps_text : ℤ → ℕ → List ℕ
steps_text steps places = sign_text (int_lt steps (pos 0)) ++ magnitude_text (unsigned_abs steps) places

-- that height as a decimal: its steps, with -places as the exponent
abbrev pub steps_decimal : ℤ → ℕ → Decimal
steps_decimal steps places = record {
  negative = int_lt steps (pos 0);
  digits = unsigned_abs steps;
  exponent = neg_ℤ (pos places);
  literal = steps_text steps places;
}
