-- What is left after a push of a text.
use Rattle.std.specs.Prelude.{◌≡◌, ℕ, List, ◌++◌, take}

-- a prefix of the text stands after the old bytes
abbrev pub AppendsPrefix : List ℕ → List ℕ → List ℕ → Type 0
AppendsPrefix old new text = (k : ℕ) × (new ≡ old ++ take k text)
