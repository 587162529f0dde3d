-- The parts of a word: one without a separator, and one too many.
use Rattle.std.proofs.Common.{◌≡◌, ℕ, ◌<◌, List, [], ◌∷◌, length, true, Result, Err, Option, Some, None, is_some, true≢false, refl, arith}
use Rattle.std.specs.List.{slice_split}
use Rattle.std.proofs.lemmas.List.Splits.{length-slice_split}
use denote.Bor.{Bor}
use Rattle.hd_feature.specs.declared.notation.Notation.{Notation}
use Rattle.hd_feature.specs.declared.notation.NotationError.{NotationError}
use Rattle.hd_feature.specs.declared.notation.NotationError.TheVariants.{BadPart}
use Rattle.hd_feature.specs.Parts.{is_separator, parts_left, no_part}

-- a text has a part, which is one too many
pub no_part-left : (number : ℕ) (rest : Option (Bor (List ℕ))) (made : Result Notation NotationError) → true ≡ is_some rest → no_part number (parts_left rest) made ≡ Err (BadPart number)
no_part-left number None made h = absurd (true≢false h)
no_part-left number (Some text) made h = filled (slice_split is_separator text.now) (let n = length-slice_split is_separator text.now in omega (arith, n))
  where
    filled : (parts : List (List ℕ)) → 0 < length parts → no_part number parts made ≡ Err (BadPart number)
    filled [] some = absurd (omega arith)
    filled (part ∷ more) some = refl
