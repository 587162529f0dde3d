-- The sizes that a deviation has, and the numbers that it is reckoned with.
use Rattle.std.proofs.Common.{◌≡◌, ◌≤◌, ◌*◌, ◌^◌, ◌∙◌, ℕ, ℤ, pos, negsuc, ◌*ℤ◌, ◌-ℤ◌, unsigned_abs, FitsSigned, w64, to_z, of_z, subst, sym, arith}
use Rattle.std.specs.Int.{w128}
use Rattle.std.proofs.lemmas.Int.{ints, to_z-of_z, unsigned_abs-mul, fits_signed_from_abs}
use Rattle.std.proofs.Math.Nat.{mul-le-mul}
use Rattle.hd_stats.specs.declared.sums.Sums.{Sums}
use Rattle.hd_stats.specs.Gathering.{deviation_by}
use Rattle.hd_stats.specs.Sums.{AreSmall}

size_of_fit : (h : ℤ) → FitsSigned w64 h → unsigned_abs h ≤ 2 ^ 63
size_of_fit (pos n) fits = omega (arith, fits.sfits)
size_of_fit (negsuc n) fits = omega (arith, fits.sfits)

-- a height, made longer
pub height-kept : (x h : ℤ) → FitsSigned w64 h → x ≡ to_z w64 (of_z w64 h) → to_z w128 (of_z w128 x) ≡ h
height-kept x h fits is =
    let same : x ≡ h = is ∙ to_z-of_z w64 h fits in
    let size = size_of_fit h fits in
    to_z-of_z w128 x (subst (FitsSigned w128) (sym same) (fits_signed_from_abs w128 h (omega (arith, size)))) ∙ same

-- a number of heights, made longer
pub count-kept : (x : ℤ) (n : ℕ) → n ≤ 4194304 → x ≡ pos n → to_z w128 (of_z w128 x) ≡ pos n
count-kept x n few is = to_z-of_z w128 x (subst (FitsSigned w128) (sym is) (fits_signed_from_abs w128 (pos n) (omega (arith, few)))) ∙ is

-- a sum of heights
pub total-kept : (x : ℤ) → unsigned_abs x ≤ 4194304 * 2 ^ 63 → to_z w128 (of_z w128 x) ≡ x
total-kept x small = to_z-of_z w128 x (fits_signed_from_abs w128 x (omega (arith, small)))

product : (h : ℤ) (n : ℕ) → unsigned_abs h ≤ 2 ^ 63 → n ≤ 4194304 → unsigned_abs (h *ℤ pos n) ≤ 2 ^ 63 * 4194304
product h n size few = omega (arith, unsigned_abs-mul h (pos n), mul-le-mul size few)

difference : (a b : ℤ) → unsigned_abs a ≤ 2 ^ 85 → unsigned_abs b ≤ 2 ^ 85 → unsigned_abs (a -ℤ b) ≤ 2 ^ 86
difference a b one two = omega (arith, ints, one, two)

-- so many times a height
pub product-fits : (h : ℤ) (n : ℕ) → FitsSigned w64 h → n ≤ 4194304 → FitsSigned w128 (h *ℤ pos n)
product-fits h n fits few = (let small = product h n (size_of_fit h fits) few in fits_signed_from_abs w128 (h *ℤ pos n) (omega (arith, small)))

pub deviation_by-small : (sums : Sums) (h : ℤ) → FitsSigned w64 h → AreSmall sums 4194304 → unsigned_abs (deviation_by sums h) ≤ 2 ^ 86
deviation_by-small sums h fits small =
    let one = product h sums.count (size_of_fit h fits) small.count in
    let two = small.total in
    difference (h *ℤ pos sums.count) sums.total (omega (arith, one)) (omega (arith, two))

pub deviation_by-fits : (sums : Sums) (h : ℤ) → FitsSigned w64 h → AreSmall sums 4194304 → FitsSigned w128 (deviation_by sums h)
deviation_by-fits sums h fits small = (let size = deviation_by-small sums h fits small in fits_signed_from_abs w128 (deviation_by sums h) (omega (arith, size)))
