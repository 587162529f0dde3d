-- The lines of distributions and shares.
use Rattle.std.specs.Prelude.{◌++◌, ℕ, ℤ, List, [], ◌∷◌, Option, Some, None, codes, decimal}
use Rattle.std.specs.Fmt.{signed_decimal}
use Rattle.std.specs.List.{flat_map}
use Rattle.hd_num.specs.declared.frac.Frac.{Frac}
use Rattle.hd_report.specs.Values.{value_text}

-- a count with a space before it
abbrev pub count_text : ℕ → List ℕ
count_text n = 32 ∷ [] ++ decimal n

-- the counts, each with a space before it, or `none`
abbrev pub counts_text : Option (List ℕ) → List ℕ
counts_text None = codes " none"
counts_text (Some counts) = flat_map count_text counts

-- `hist N WORD` and the counts
abbrev pub hist_line : ℕ → List ℕ → Option (List ℕ) → List ℕ
hist_line bins word counts = codes "hist " ++ decimal bins ++ 32 ∷ [] ++ word ++ counts_text counts ++ 10 ∷ []

-- `perc V WORD VALUE`
abbrev pub perc_line : ℤ → List ℕ → Option Frac → List ℕ
perc_line above word value = codes "perc " ++ signed_decimal above ++ 32 ∷ [] ++ word ++ 32 ∷ [] ++ value_text value ++ 10 ∷ []
