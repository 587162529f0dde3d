-- A choice by the order of two numbers.
use Rattle.std.proofs.Common.{◌≡◌, ◌<◌, ◌≤◌, ℕ, arith}
use Rattle.std.specs.Prelude.{nat_lt, if◌then◌else◌}
use Rattle.std.proofs.lemmas.Bool.Decides.{nat_tests}

pub if-less : {X : Type 0} (m n : ℕ) (a b : X) → m < n → (if nat_lt m n then a else b) ≡ a
if-less m n a b less = grind (arith, nat_tests)

pub if-not_less : {X : Type 0} (m n : ℕ) (a b : X) → n ≤ m → (if nat_lt m n then a else b) ≡ b
if-not_less m n a b more = grind (arith, nat_tests)
