-- The words of the longest row.
use Rattle.std.proofs.Common.{◌≡◌, ◌<◌, ◌≤◌, ℕ, List, [], ◌∷◌, length, get_or, map, refl, arith}
use Rattle.hd_num.specs.declared.span.Span.{Span}
use Rattle.hd_num.specs.Span.{text_at}

-- five words, one by one
pub words-five : (line : List ℕ) (words : List Span) (d : Span) → 5 ≤ length words → length words < 6
    → map (text_at line) words ≡ text_at line (get_or words 0 d) ∷ text_at line (get_or words 1 d) ∷ text_at line (get_or words 2 d) ∷ text_at line (get_or words 3 d)
    ∷ text_at line (get_or words 4 d) ∷ []
words-five line (a ∷ b ∷ c ∷ e ∷ f ∷ []) d least below = refl
words-five line words d least below = absurd (omega (arith, least, below))
