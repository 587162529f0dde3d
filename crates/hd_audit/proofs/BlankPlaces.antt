-- A table without places.
use Rattle.std.proofs.Common.{◌≡◌, ℕ, zero, suc, List, ◌∷◌, Option, None, map, replicate, refl, ap}
use Rattle.hd_audit.specs.Places.{place_of_number}

pub place_of_number-none : (n : ℕ) → map place_of_number (replicate n 0) ≡ replicate n None
place_of_number-none zero = refl
place_of_number-none (suc n) = ap (λ (xs : List (Option ℕ)). None ∷ xs) (place_of_number-none n)
