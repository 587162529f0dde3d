-- What the test of integers says.
use Rattle.std.proofs.Common.{◌≡◌, ◌≤ℤ◌, ℤ, true, arith}
use Rattle.std.proofs.lemmas.Int.{ints}
use Rattle.std.specs.Prelude.{int_le}

-- an integer that the test passes is no greater
pub int_le-holds : (a b : ℤ) → int_le a b ≡ true → a ≤ℤ b
int_le-holds a b e = grind (arith, ints)

-- the test passes an integer that is no greater
pub int_le-true : (a b : ℤ) → a ≤ℤ b → int_le a b ≡ true
int_le-true a b within = grind (arith, ints)
