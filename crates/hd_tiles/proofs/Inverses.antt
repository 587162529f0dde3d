-- Places divided by the side of a tile: multiplied by the inverse of the side.
use Rattle.std.proofs.Common.{ℕ, ◌≡◌, ◌<◌, ◌≤◌, ◌+◌, ◌-◌, ◌*◌, ◌/◌, ap, arith, ◌∙◌, inl, inr}
use Rattle.std.proofs.Math.Nat.{mul-le-mul_left, mul-le-mul_right, mul_assoc, mul_comm}
use Rattle.std.proofs.lemmas.Bool.{cases_lt}
use Rattle.std.proofs.lemmas.Nat.{div-add-mod', mod_below}
use Rattle.hd_tiles.specs.Tile.{inverse_of}
use Rattle.hd_tiles.proofs.TilesAlong.{part-is}

-- the inverse, times the side, is 2 ^ 25 or more by less than the side
inverse_times : (t : ℕ) → 8 ≤ t → (33554432 ≤ inverse_of t * t) × (inverse_of t * t < 33554432 + t)
unfolding inverse_of
inverse_times t wide =
    let split = div-add-mod' (33554432 + t - 1) t in
    let below = mod_below (33554432 + t - 1) t (omega (arith, wide)) in
    (omega (arith, split, below), omega (arith, split, below))

-- the inverse of a side is not small
inverse_great : (t : ℕ) → 8 ≤ t → t ≤ 256 → 131072 ≤ inverse_of t
inverse_great t wide narrow = elim (cases_lt (inverse_of t) 131072) [
  | inl small ↦
      let product = mul-le-mul_right t (let less : inverse_of t ≤ 131071 = omega (arith, small) in less) in
      absurd (omega (arith, product, (inverse_times t wide).0, narrow))
  | inr great ↦ great
]

-- a place below 2 ^ 16 is divided by the side
pub divided_by_inverse : (x t : ℕ) → x < 65536 → 8 ≤ t → t ≤ 256 → x * inverse_of t / 33554432 ≡ x / t
divided_by_inverse x t few wide narrow =
    let v : ℕ = inverse_of t in
    let q : ℕ = x / t in
    let split = div-add-mod' x t in
    let below = mod_below x t (omega (arith, wide)) in
    let again : (k : ℕ) → k * t * v ≡ k * (v * t) = λ k. mul_assoc k t v ∙ ap (λ n. k * n) (mul_comm t v) in
    let least = mul-le-mul_left q (inverse_times t wide).0 in
    let greatest = mul-le-mul_left (q + 1) (let most : v * t + 1 ≤ 33554432 + t = omega (arith, (inverse_times t wide).1) in most) in
    let from = mul-le-mul_right v (let begins : q * t ≤ x = omega (arith, split) in begins) in
    let to = mul-le-mul_right v (let ends : x + 1 ≤ (q + 1) * t = omega (arith, split, below) in ends) in
    let great = inverse_great t wide narrow in
    part-is (x * v) q 33554432 (x * v - q * 33554432) (omega (arith, again (q + 1), greatest, to, great, split, few, narrow)) (omega (arith, again q, least, from))
