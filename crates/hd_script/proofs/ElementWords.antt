-- The words before the entries of an element.
use Rattle.std.proofs.Common.{◌≡◌, ◌<◌, ◌≤◌, ◌-◌, ℕ, List, [], ◌∷◌, Err, take, drop, length, get_or, map, refl, arith}
use Rattle.std.proofs.lemmas.List.{take_rest}
use Rattle.hd_num.specs.declared.span.Span.{Span}
use Rattle.hd_num.specs.Span.{text_at}
use Rattle.hd_script.specs.declared.command.LineError.TheVariants.{WordCount}
use Rattle.hd_script.specs.CommandWords.{element_words}

-- three words, one by one, and the others
pub words-three : (line : List ℕ) (words : List Span) (d : Span) → 3 ≤ length words
    → map (text_at line) words ≡ text_at line (get_or words 0 d) ∷ text_at line (get_or words 1 d) ∷ text_at line (get_or words 2 d) ∷ map (text_at line) (take (length words - 3) (drop 3 words))
words-three line (a ∷ b ∷ c ∷ words) d least = rw (take_rest (a ∷ b ∷ c ∷ words) 3) refl
words-three line words d least = absurd (omega (arith, least))

-- fewer are too few
pub element_words-fewer : (line : List ℕ) (words : List Span) → length words < 3 → element_words (map (text_at line) words) ≡ Err WordCount
element_words-fewer line [] below = refl
element_words-fewer line (a ∷ []) below = refl
element_words-fewer line (a ∷ b ∷ []) below = refl
element_words-fewer line (a ∷ b ∷ c ∷ words) below = absurd (omega (arith, below))
