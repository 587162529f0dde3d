-- Differences of heights.
use Rattle.std.proofs.Common.{◌≡◌, ℤ, refl, arith, w64}
use Rattle.std.specs.Prelude.{◌-ℤ◌, FitsSigned}
use mir.Val.{to_z, of_z}
use Rattle.std.proofs.lemmas.Int.{ints, to_z-of_z}
use Rattle.hd_prune.specs.Span.{IsHeight}

-- the difference of two heights fits
pub IsHeight-difference : (x c : ℤ) → IsHeight x → IsHeight c → FitsSigned w64 (x -ℤ c)
IsHeight-difference x c hx hc =
    let a = hx.least in
    let b = hx.greatest in
    let d = hc.least in
    let e = hc.greatest in
    omega (arith, ints)

height_fits : (x : ℤ) → IsHeight x → FitsSigned w64 x
height_fits x h = let a = h.least in let b = h.greatest in omega (arith, ints)

-- heights are kept as they are
pub IsHeight-kept : (x : ℤ) → IsHeight x → to_z w64 (of_z w64 x) ≡ x
IsHeight-kept x h = to_z-of_z w64 x (height_fits x h)

-- so is their difference
pub IsHeight-difference_kept : (x c : ℤ) → IsHeight x → IsHeight c → to_z w64 (of_z w64 (to_z w64 (of_z w64 x) -ℤ to_z w64 (of_z w64 c))) ≡ x -ℤ c
IsHeight-difference_kept x c hx hc = rw (IsHeight-kept x hx, IsHeight-kept c hc, to_z-of_z w64 (x -ℤ c) (IsHeight-difference x c hx hc)) refl
