-- Strict orders that are given by a test.
use Rattle.std.specs.Prelude.{◌≡◌, Bool, true, false}

-- a is not above b
abbrev pub IsNotAbove : {V : Type 0} → (V → V → Bool) → V → V → Type 0
IsNotAbove below a b = below b a ≡ false

-- none is below itself, below is transitive, and of two different ones one is below the other
pub record IsStrictOrder {V : Type 0} (below : V → V → Bool) : Type 0 where
  pub irreflexive : (a : V) → below a a ≡ false
  pub transitive : (a b c : V) → below a b ≡ true → below b c ≡ true → below a c ≡ true
  pub total : (a b : V) → below a b ≡ false → below b a ≡ false → a ≡ b
