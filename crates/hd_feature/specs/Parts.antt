-- The parts of a word, each in its form.
use Rattle.std.specs.Prelude.{◌≡◌, ◌==◌, ℕ, Bool, List, [], ◌∷◌, Option, Some, None, Result, Ok, Err}
use Rattle.std.specs.List.{slice_split}
use denote.Bor.{Bor}
use Rattle.hd_feature.specs.declared.notation.Notation.{Notation}
use Rattle.hd_feature.specs.declared.notation.NotationError.{NotationError}
use Rattle.hd_feature.specs.declared.notation.NotationError.TheVariants.{BadPart}

-- a `;`, which stands between two parts
abbrev pub is_separator : ℕ → Bool
is_separator byte = byte == 59

-- the parts of a word
abbrev pub parts_of : List ℕ → List (List ℕ)
parts_of word = slice_split is_separator word

-- what is made of a value, or the refusal that came in its place
abbrev pub and_then : {A B : Type 0} → Result A NotationError → (A → Result B NotationError) → Result B NotationError
and_then (Ok x) make = make x
and_then (Err error) make = Err error

-- what a part writes, or that it has not its form
abbrev pub read_or_bad : {A : Type 0} → ℕ → Option A → Result A NotationError
read_or_bad number (Some x) = Ok x
read_or_bad number None = Err (BadPart number)

-- the part of a number stands first and has this form; what it writes and the parts after it are
-- made into more
abbrev pub part : {A B : Type 0} → ℕ → (List ℕ → Option A) → List (List ℕ) → (A → List (List ℕ) → Result B NotationError) → Result B NotationError
part number form [] make = Err (BadPart number)
part number form (text ∷ more) make = and_then (read_or_bad number (form text)) (λ x. make x more)

-- no part is left; the one that is has this number
abbrev pub no_part : {B : Type 0} → ℕ → List (List ℕ) → Result B NotationError → Result B NotationError
no_part number [] made = made
no_part number (text ∷ more) made = Err (BadPart number)

-- the parts that are left of a word: those of a text, or none
abbrev pub parts_left : Option (Bor (List ℕ)) → List (List ℕ)
parts_left None = []
parts_left (Some text) = parts_of text.now

-- what was read is what the first of the parts writes, whatever is made of it and the others
abbrev pub Reads : {A : Type 0} → ℕ → (List ℕ → Option A) → List (List ℕ) → Result (A × Option (Bor (List ℕ))) NotationError → Type 0
Reads {A} number form parts result = (make : A → List (List ℕ) → Result Notation NotationError) → part number form parts make ≡ and_then result (λ p. make p.0 (parts_left p.1))
